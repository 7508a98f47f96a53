-- What only private functions, invariants and proofs cite.
pub mod Able
pub mod Begin
pub mod Inside
pub mod Kinds
pub mod Parts
pub mod Passes
pub mod Turns
