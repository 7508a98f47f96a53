-- What only private functions, invariants and proofs cite.
pub mod CheckText
pub mod Draws
pub mod Generators
pub mod Quiet
pub mod Simulation
pub mod Streams
