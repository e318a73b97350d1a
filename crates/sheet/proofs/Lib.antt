mod Shapes
mod Words
pub mod Rows
