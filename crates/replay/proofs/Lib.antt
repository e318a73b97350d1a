pub mod Joins
pub mod Desks
pub mod Feeding
