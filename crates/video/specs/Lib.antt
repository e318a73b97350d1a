pub mod Composition
pub mod Fields
pub mod Picture
