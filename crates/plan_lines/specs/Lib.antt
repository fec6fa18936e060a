pub mod ComponentName
pub mod Line
pub mod Plain
pub mod Examples
