pub mod Faults
pub mod Named
pub mod Constraints
pub mod Relaxes
pub mod Examples
