pub mod Lists
pub mod Narrowed
pub mod Flags
pub mod FlagValues
pub mod Asked
pub mod NoOther
pub mod Whole
pub mod FoundAgain
