pub mod Bars
pub mod Relaxed
pub mod Relaxing
pub mod NumberedScope
pub mod Rules
pub mod Stands
pub mod Examples
