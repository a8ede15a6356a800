pub mod SimpleNames
pub mod Simple
pub mod SimpleScripts
pub mod NameSet
pub mod Sums
