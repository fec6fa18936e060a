pub mod Values
pub mod Flagged
pub mod Walk
pub mod Taken
pub mod ProjectFiles
pub mod One
pub mod ExtraPackages
pub mod ListFields
