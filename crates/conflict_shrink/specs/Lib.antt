pub mod Restricted
pub mod RestrictedLaws
pub mod Shrinking
pub mod Examples
