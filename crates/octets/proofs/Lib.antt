pub mod Digits
pub mod Scans
pub mod Sames
