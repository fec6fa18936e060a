pub mod Examples
pub mod Failure
pub mod Run
