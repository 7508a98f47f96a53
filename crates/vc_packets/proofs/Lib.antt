pub mod HeaderBytes
pub mod PieceLists
