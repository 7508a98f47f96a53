-- What only private functions, invariants and proofs cite.
pub mod Laws
pub mod View
