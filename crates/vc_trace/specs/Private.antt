-- What only private functions, invariants and proofs cite.
pub mod EventOf
pub mod EventReader
pub mod EventText
pub mod Names
pub mod Replay
pub mod TraceSink
pub mod Verbs
pub mod Words
