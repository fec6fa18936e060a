pub mod OptionName
pub mod CommandName
pub mod Form
pub mod Words
pub mod Reading
pub mod Parser
pub mod Examples
