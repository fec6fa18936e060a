pub mod Told
pub mod Telling
pub mod Ranks
pub mod Plan
pub mod Before
pub mod Whole
pub mod Examples
