pub mod Digits
pub mod Faults
pub mod Requests
pub mod Desk
pub mod Model
pub mod Prints
