pub mod Found
pub mod Orders
pub mod Parts
pub mod Picks
pub mod Scores
pub mod Ends
