pub mod Numbers
pub mod Questions
pub mod Examples
pub mod Flags
pub mod Commands
pub mod ArgumentTexts
