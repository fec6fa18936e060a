pub mod CommaCuts
pub mod FoundEntries
pub mod Ascii
pub mod OneReading
pub mod Filtered
