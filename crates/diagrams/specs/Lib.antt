pub mod Cases
pub mod Leaves
pub mod Meaning
pub mod Search
pub mod Table
