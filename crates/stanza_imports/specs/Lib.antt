pub mod Names
pub mod Parts
pub mod Imports
pub mod KnownStanzas
pub mod Lines
pub mod Bodies
pub mod Standing
pub mod Walk
