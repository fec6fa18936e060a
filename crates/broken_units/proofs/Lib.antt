pub mod Table
pub mod Marked
pub mod Search
