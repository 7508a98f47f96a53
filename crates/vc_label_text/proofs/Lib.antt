pub mod Depth
pub mod SameNodes
pub mod Refusals
