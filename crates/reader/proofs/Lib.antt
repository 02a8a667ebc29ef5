pub mod Sounds
pub mod Tells
pub mod Starts
pub mod Places
