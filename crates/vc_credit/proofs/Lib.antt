pub mod CreditSum
pub mod Fronts
