pub mod Project
pub mod Freeze
pub mod Examples
