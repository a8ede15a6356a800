pub mod Headers
pub mod Frames
