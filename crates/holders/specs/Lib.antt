pub mod Holders
pub mod Kept
