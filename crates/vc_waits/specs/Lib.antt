pub mod Meaning
pub mod Packets
pub mod Paths
pub mod Ports
pub mod Private
pub mod Waits
