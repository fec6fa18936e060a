pub mod Tails
pub mod CondKind
pub mod CondTails
pub mod ConditionNames
pub mod Compilers
pub mod Atoms
pub mod Factors
pub mod WholeConditions
