pub mod Trees
pub mod Steps
pub mod Files
pub mod OneFile
pub mod ChainedParts
