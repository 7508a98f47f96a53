pub mod NextMessage
pub mod NeverQuiet
