pub mod OneLibrary
pub mod Fits
