pub mod Properties
pub mod Puts
pub mod Grown
pub mod Making
pub mod Changing
pub mod Defining
pub mod Lengths
pub mod Giving
