pub mod Variable
pub mod SameVariable
pub mod Names
pub mod Printed
pub mod Examples
