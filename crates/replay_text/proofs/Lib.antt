pub mod Cut
pub mod Numbers
pub mod Goes
pub mod Count
pub mod One
