pub mod Delivery
pub mod Together
pub mod Placements
pub mod Converse
pub mod Private
pub mod Rest
pub mod NeverStuck
