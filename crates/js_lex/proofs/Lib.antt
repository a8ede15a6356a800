pub mod Going
pub mod Scanning
