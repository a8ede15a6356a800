pub mod Known
pub mod Closed
