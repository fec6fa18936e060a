pub mod Cuts
pub mod States
pub mod Relaid
pub mod OlderTree
pub mod Examples
