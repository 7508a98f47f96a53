-- What only private functions, invariants and proofs cite.
pub mod Check
pub mod Following
pub mod Paths
pub mod Search
pub mod WayLengths
