mod Refused
mod Taken
mod Over
