pub mod Keys
pub mod OrderInvariant
pub mod OneOrder
pub mod Walk
pub mod PlacedNodes
pub mod SomeOrder
