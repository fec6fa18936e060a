pub mod Values
pub mod Texts
pub mod Line
pub mod Examples
