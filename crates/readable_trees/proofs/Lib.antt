pub mod Units
pub mod Forms
pub mod ItemForms
pub mod Named
pub mod Mentioned
pub mod Alike
pub mod InputNames
