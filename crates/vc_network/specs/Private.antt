-- What only private functions, invariants and proofs cite.
pub mod Actors
pub mod Merge
