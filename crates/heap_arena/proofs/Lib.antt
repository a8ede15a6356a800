pub mod Lookups
pub mod Scoping
pub mod Views
pub mod Entries
pub mod Chains
pub mod Changed
pub mod Defining
