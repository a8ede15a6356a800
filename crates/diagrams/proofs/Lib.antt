pub mod Meanings
pub mod Sharing
pub mod Growing
pub mod Made
pub mod Searching
pub mod Chains
pub mod Walking
pub mod Guarding
