pub mod Examples
pub mod Cuts
pub mod Version
pub mod Number
pub mod Print
pub mod Read
pub mod Grammar
