-- What only proofs cite.
pub mod Lawful
