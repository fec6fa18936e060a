pub mod Events
pub mod Examples
