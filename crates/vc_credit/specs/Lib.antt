pub mod Credit
pub mod Ends
pub mod Laws
