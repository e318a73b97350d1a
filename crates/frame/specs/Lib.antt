pub mod Ports
pub mod Timing
pub mod Machine
pub mod History
pub mod Law
pub mod Worked
pub mod Example
