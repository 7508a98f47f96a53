-- What only private functions, invariants and proofs cite.
pub mod Clashes
pub mod InOrder
pub mod MovedVariables
pub mod Questions
pub mod Renaming
pub mod Usages
