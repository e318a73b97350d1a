pub mod Logs
pub mod Frames
pub mod FrameRows
