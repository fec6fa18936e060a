pub mod GoalOrder
pub mod NameNumbers
pub mod Ordered
pub mod OwnNumbers
