mod ToolBytes
mod BodySteps
mod TopSteps
mod OneOutcome
mod AloneSections
