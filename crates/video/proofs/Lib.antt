pub mod Looks
pub mod Bits
