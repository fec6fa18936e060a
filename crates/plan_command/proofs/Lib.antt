pub mod OneAnswer
pub mod Outputs
pub mod Words
pub mod Buildable
pub mod NoUsage
