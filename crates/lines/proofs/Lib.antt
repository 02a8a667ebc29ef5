pub mod Putting
pub mod Decimals
