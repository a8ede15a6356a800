pub mod Folds
pub mod EarlyCases
pub mod NameCases
pub mod FlatCases
pub mod Flatness
