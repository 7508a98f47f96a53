-- What only private functions, invariants and proofs cite.
pub mod Following
pub mod Graph
pub mod Round
pub mod Search
