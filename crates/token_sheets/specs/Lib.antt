pub mod NamePlaces
pub mod Sheets
