pub mod Reading
pub mod Replay
pub mod Examples
