pub mod TooLong
pub mod WorkedRuns
