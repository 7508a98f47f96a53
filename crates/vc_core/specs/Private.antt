-- What only private functions, invariants and proofs cite.
pub mod ByEnd
pub mod Channels
pub mod Choices
pub mod Fronts
pub mod Lines
pub mod OutgoingTable
pub mod PacketPlace
pub mod State
pub mod Targets
pub mod Turns
pub mod Ways
pub mod Wiring
