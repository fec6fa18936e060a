pub mod Words
pub mod Fields
pub mod Folds
pub mod Record
pub mod Examples
