pub mod Offers
pub mod Calls
