-- What only private functions, invariants and proofs cite.
pub mod Close
pub mod Jobs
pub mod Least
pub mod MergedRuns
pub mod Order
pub mod Rings
pub mod Rooms
pub mod Threads
pub mod Works
