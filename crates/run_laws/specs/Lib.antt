pub mod Symbols
pub mod SymbolLaw
pub mod LaterLaw
