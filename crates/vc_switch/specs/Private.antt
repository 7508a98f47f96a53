-- What only private functions, invariants and proofs cite.
pub mod Front
pub mod Opening
pub mod Ready
pub mod Requests
pub mod SwitchView
