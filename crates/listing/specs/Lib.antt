pub mod Looks
pub mod Words
pub mod Summary
pub mod Firmware
