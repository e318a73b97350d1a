pub mod Meaning
pub mod Buses
pub mod Stalling
pub mod Making
pub mod Held
pub mod Runs
