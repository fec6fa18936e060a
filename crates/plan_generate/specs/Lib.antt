pub mod Draws
pub mod Text
pub mod Generated
pub mod SureFolder
pub mod Examples
