pub mod Cycle
pub mod Search
pub mod Examples
