pub mod Acknowledges
pub mod Arrivals
pub mod Halves
pub mod Messages
pub mod Outputs
pub mod Private
pub mod WholeMessages
