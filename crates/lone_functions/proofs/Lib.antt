mod Counted
mod Families
mod Renumbered
mod RenumberedStatements
pub mod OrderLaw
pub mod AloneCases
