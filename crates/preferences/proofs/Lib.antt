pub mod Unique
pub mod TotalOrders
pub mod Made
