pub mod Walk
pub mod Parsed
pub mod Forms
pub mod Table
