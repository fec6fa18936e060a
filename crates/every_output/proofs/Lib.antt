mod Sorted
mod GoalOrder
mod Tasks
mod Outputs
