pub mod Entries
pub mod Shortening
pub mod Lowering
