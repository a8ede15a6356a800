pub mod Back
pub mod Forms
pub mod Putting
pub mod StatementForms
