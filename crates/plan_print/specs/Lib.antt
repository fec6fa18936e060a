pub mod Cause
pub mod Place
pub mod Note
pub mod Choice
pub mod Texts
pub mod Summary
pub mod Examples
