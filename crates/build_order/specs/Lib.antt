pub mod Order
pub mod Building
pub mod Examples
