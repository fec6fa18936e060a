pub mod Frames
pub mod Lists
pub mod Output
pub mod Status
