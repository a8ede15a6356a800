pub mod Types
pub mod Sizes
pub mod Meant
pub mod Followed
pub mod RealmItself
pub mod SymbolLaw
pub mod LaterLaw
