pub mod Anew
pub mod Alone
pub mod Named
pub mod AloneLaw
pub mod AloneCases
