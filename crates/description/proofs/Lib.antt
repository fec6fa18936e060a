pub mod FirstBadLine
pub mod CircularComponents
pub mod FirstFaults
pub mod OneOutcome
pub mod SingleOutcome
pub mod RepeatedNames
