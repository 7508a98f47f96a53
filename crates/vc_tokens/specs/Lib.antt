pub mod Assembly
pub mod CodeTokens
pub mod Decoding
pub mod Laws
pub mod Tokens
