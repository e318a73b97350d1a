mod Appends
mod Aligned
mod Trims
