pub mod Parts
pub mod FirstFault
pub mod Reading
pub mod Outcome
pub mod Last
pub mod Words
