pub mod Leads
pub mod Examples
