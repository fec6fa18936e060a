pub mod Kept
pub mod ReadId
