pub mod Sounds
pub mod Clears
pub mod Counts
pub mod Gathers
pub mod Lies
pub mod Again
