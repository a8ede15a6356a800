pub mod NameSets
pub mod Folds
pub mod Counting
