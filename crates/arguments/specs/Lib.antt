pub mod Hex
pub mod Numbers
pub mod Buses
pub mod Figures
pub mod Words
pub mod Drafts
