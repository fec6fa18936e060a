pub mod Blame
pub mod Finding
pub mod Meaning
