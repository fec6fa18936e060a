mod Made
mod OneOutcome
mod Parts
mod TextStays
