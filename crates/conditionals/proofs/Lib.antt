pub mod ConditionLayers
pub mod PathNumbers
mod Rows
pub mod Followed
pub mod Finishing
pub mod Cleaning
pub mod CleanedPaths
pub mod JoinedPaths
pub mod HoldingPaths
