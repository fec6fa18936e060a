pub mod Sets
pub mod Rises
pub mod Room
pub mod Moves
pub mod Bounds
