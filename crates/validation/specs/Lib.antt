pub mod View
pub mod Verdict
pub mod Pending
