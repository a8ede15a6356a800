pub mod Hosts
pub mod FailHosts
pub mod Inners
pub mod Recorders
