pub mod FlagSettings
pub mod Outlook
pub mod Known
