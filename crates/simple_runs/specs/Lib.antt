pub mod Events
pub mod Simple
pub mod Runs
pub mod Listing
pub mod PlainVariables
pub mod Placed
pub mod SimpleRuns
pub mod SimpleListings
