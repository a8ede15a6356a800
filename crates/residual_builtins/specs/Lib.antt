pub mod Calls
pub mod Values
pub mod Heaps
pub mod Examples
