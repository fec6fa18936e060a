pub mod Pushed
pub mod Steps
pub mod One
pub mod Sound
