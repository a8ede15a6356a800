pub mod Properties
pub mod Heaps
pub mod Laws
