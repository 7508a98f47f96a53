-- What only private functions, invariants and proofs cite.
pub mod Bound
pub mod Hints
pub mod LinkOut
pub mod Opening
pub mod Queues
pub mod VcpView
