pub mod Draining
mod Rounds
mod Scan
