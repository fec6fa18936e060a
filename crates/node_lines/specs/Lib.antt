pub mod Lines
pub mod Gather
pub mod Along
