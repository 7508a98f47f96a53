pub mod CauseText
pub mod Labelled
pub mod Private
pub mod Short
