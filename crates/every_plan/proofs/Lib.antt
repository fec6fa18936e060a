pub mod Flags
pub mod Orders
pub mod Findings
pub mod Pieces
pub mod Nodes
pub mod Reached
pub mod Plans
