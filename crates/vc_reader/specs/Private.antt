-- What only private functions, invariants and proofs cite.
pub mod Bare
pub mod Bytes
pub mod Processes
pub mod Reading
