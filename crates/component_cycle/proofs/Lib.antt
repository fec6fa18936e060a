pub mod Reaches
pub mod Costs
pub mod Enters
pub mod Joins
pub mod Closes
pub mod Ends
