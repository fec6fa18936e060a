pub mod View
pub mod Open
pub mod Stack
pub mod Addition
pub mod Growth
