pub mod NumberBounds
pub mod Disagreements
pub mod Least
pub mod First
pub mod Alike
