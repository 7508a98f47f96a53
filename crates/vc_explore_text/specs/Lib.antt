pub mod ExploredJson
pub mod ExploredText
pub mod Exploration
