pub mod Form
pub mod Asked
pub mod Output
pub mod Run
pub mod Meaning
pub mod Status
