pub mod Tasks
pub mod OneTask
