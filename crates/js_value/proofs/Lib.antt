pub mod OperatorCases
pub mod SpelledNumbers
