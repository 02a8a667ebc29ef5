pub mod Conds
pub mod Parts
pub mod Inverse
pub mod Stores
pub mod Loops
pub mod Tables
pub mod Decimals
