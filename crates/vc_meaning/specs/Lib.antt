pub mod Meaning
pub mod Events
pub mod Endings
