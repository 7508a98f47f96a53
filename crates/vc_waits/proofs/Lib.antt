pub mod Folds
pub mod Meanings
pub mod PacketPlaces
