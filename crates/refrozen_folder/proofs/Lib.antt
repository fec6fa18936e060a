mod Lists
mod Root
mod Places
mod Locals
mod Index
