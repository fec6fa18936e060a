pub mod Narrower
