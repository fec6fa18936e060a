pub mod Frozen
pub mod Barred
pub mod Plain
pub mod Examples
