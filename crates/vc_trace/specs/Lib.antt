pub mod Escapes
pub mod EventOf
pub mod EventText
pub mod Lines
pub mod Private
pub mod Replay
pub mod TraceText
