pub mod ListLaws
mod Made
pub mod Atoms
mod Relaxed
mod RowLaws
mod DefaultLaws
mod Insides
pub mod Allowing
mod Operators
mod Calm
mod Segments
mod Blocked
mod RangesByName
