pub mod Graph
pub mod State
