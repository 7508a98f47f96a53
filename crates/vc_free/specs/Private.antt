-- What only proofs cite.
pub mod Delays
