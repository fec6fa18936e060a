pub mod Elsewhere
mod RowDemands
mod OrderTests
mod Findings
mod InBlocks
mod NewProblem
mod GroupLaws
mod Whole
mod WholeLaws
mod OneTable
mod OneOrders
mod OneProblem
