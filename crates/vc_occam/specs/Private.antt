-- What only private functions, invariants and proofs cite.
pub mod BlockedParts
pub mod Frames
pub mod Keys
pub mod MoveSites
pub mod OneProof
pub mod Receivers
pub mod SiteSteps
pub mod Sites
pub mod StepsInARow
pub mod Waiters
pub mod Wholes
