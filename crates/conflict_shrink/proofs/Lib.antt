pub mod Restricts
pub mod Searches
pub mod ShrunkSets
pub mod Tightens
pub mod Known
