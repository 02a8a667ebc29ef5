pub mod Cutting
pub mod Taken
