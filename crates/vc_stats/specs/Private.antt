-- What only private functions, invariants and proofs cite.
pub mod ActCounts
pub mod Buffers
pub mod Json
pub mod Packets
pub mod Peaks
pub mod Sums
pub mod Told
pub mod Times
