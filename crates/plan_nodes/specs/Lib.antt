pub mod Line
pub mod Once
pub mod Seen
pub mod Examples
