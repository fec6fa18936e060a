pub mod Words
pub mod Branch
pub mod Items
pub mod Readings
pub mod File
pub mod Examples
pub mod Chained
