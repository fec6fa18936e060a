pub mod Editions
pub mod Items
pub mod Headers
pub mod NameMaps
pub mod Names
pub mod Flat
pub mod Refused
pub mod Examples
