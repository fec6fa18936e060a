pub mod Records
pub mod Ranks
pub mod Meaning
pub mod Examples
