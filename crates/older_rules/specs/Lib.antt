pub mod Tools
pub mod Bodies
pub mod Heads
pub mod Tops
pub mod Modern
pub mod Examples
