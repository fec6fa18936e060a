pub mod FaultOrder
pub mod Faults
pub mod NamesBefore
pub mod Description
pub mod ShownVersion
pub mod Examples
