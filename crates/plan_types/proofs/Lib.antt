pub mod Orders
pub mod Rebuilt
pub mod ConditionTables
pub mod GroupTests
pub mod OutcomeLemmas
