mod NameBytes
mod FaultSteps
