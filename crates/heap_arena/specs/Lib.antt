pub mod Environments
pub mod Meaning
pub mod Found
pub mod Parts
pub mod Changes
pub mod Defines
