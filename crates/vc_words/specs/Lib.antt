pub mod Status
pub mod CommandLine
pub mod Examples
pub mod Program
