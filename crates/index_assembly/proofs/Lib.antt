pub mod Gathering
pub mod Lists
pub mod Made
pub mod StableSorts
