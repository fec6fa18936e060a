pub mod NextViews
pub mod Verdicts
pub mod Settles
pub mod Backs
pub mod Weighed
pub mod Disagreeing
pub mod JoinedSources
