pub mod Refrozen
pub mod Examples
