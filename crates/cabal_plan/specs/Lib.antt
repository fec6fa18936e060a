pub mod Examples
pub mod Failure
pub mod Run
pub mod Taken
pub mod Words
