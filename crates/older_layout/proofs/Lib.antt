pub mod Cutting
pub mod Turns
pub mod KeptPieces
pub mod OneOlderTree
pub mod Decoding
