pub mod Reading
pub mod LocatedPackages
