pub mod Defining
pub mod Lengths
