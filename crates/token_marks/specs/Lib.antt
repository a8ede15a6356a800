pub mod Levels
pub mod Beginnings
