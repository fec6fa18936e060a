mod Meant
mod Stopped
