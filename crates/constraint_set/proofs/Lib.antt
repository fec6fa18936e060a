pub mod Asked
pub mod Keys
pub mod Relaxes
pub mod Stands
