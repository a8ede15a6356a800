pub mod Itself
pub mod Codes
pub mod Starts
