pub mod Linearization
pub mod Parallel
pub mod Placement
pub mod OneNode
pub mod Fits
pub mod Nesting
