pub mod Items
pub mod Inputs
pub mod Ends
