mod Settings
mod Rows
pub mod OutlookPlaces
pub mod ImpossibleConditions
