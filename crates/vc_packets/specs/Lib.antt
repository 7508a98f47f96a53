pub mod Counters
pub mod Functions
pub mod Headers
pub mod Kind
pub mod Laws
pub mod Pieces
pub mod Spellings
