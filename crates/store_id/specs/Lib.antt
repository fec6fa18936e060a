pub mod NodeText
pub mod Identifier
pub mod Examples
