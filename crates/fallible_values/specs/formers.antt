pub mod boxed
pub mod list
pub mod shared
