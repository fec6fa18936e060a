pub mod Small
pub mod Lists
pub mod Each
pub mod Passing
pub mod Graphs
pub mod Decidability
pub mod StableSorts
pub mod SortedInsertion
