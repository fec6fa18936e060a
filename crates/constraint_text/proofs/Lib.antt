pub mod OneNamed
pub mod Project
pub mod OneConstraint
pub mod Dashes
pub mod OneRelax
