pub mod GivesBack
pub mod Writes
