pub mod Depends
pub mod Examples
