pub mod Fronts
pub mod Picked
