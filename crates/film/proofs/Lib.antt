mod Answered
mod Lates
mod First
mod FrameLines
