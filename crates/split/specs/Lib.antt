pub mod Split
pub mod Exactly
