pub mod Screens
pub mod Rasters
pub mod Stills
