pub mod Places
pub mod Candidate
pub mod Examples
