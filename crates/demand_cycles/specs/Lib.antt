pub mod Cycles
pub mod VarSet
pub mod Side
pub mod Ring
