mod Numerals
mod Rows
mod Spans
