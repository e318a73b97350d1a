pub mod Codes
pub mod Stands
