mod Found
mod Made
mod Texts
mod Tasks
mod Printed
