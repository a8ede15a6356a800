pub mod Highest
pub mod Height
pub mod Opened
pub mod Nesting
pub mod NestingCases
