pub mod Keys
pub mod Reached
pub mod Sides
pub mod Rings
pub mod Told
