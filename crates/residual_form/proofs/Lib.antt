mod Mentioned
mod Listed
mod Totals
pub mod FormOpening
pub mod FormCases
pub mod WholeCases
pub mod SmallForms
