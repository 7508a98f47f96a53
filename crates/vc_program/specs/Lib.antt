pub mod Choices
pub mod Private
pub mod Program
pub mod Search
pub mod SiteSteps
