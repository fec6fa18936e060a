pub mod Gathering
pub mod NodePlaces
pub mod LineMaking
pub mod OneLine
