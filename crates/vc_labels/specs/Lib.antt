pub mod Fault
pub mod Interval
pub mod Lawful
