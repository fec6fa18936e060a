pub mod Guide
pub mod Walk
