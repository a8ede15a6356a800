pub mod formers
pub mod Numbers
pub mod Texts
pub mod Conversions
pub mod Operators
pub mod OperatorCases
pub mod Answers
