pub mod Beside
pub mod Ring
pub mod Row
pub mod Chains
pub mod Links
pub mod Mentions
pub mod Places
