pub mod Marks
pub mod Events
pub mod Board
pub mod Building
pub mod Laws
pub mod Examples
