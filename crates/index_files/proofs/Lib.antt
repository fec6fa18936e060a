pub mod Apart
pub mod Closing
pub mod Ending
pub mod Finding
pub mod FileTotals
pub mod Forms
pub mod Joined
pub mod KnownFiles
pub mod Pairs
pub mod AddedNames
pub mod Recording
pub mod Records
pub mod StepsInTurn
pub mod Visiting
mod Groups
