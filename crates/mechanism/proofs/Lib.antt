pub mod Laws
pub mod Kept
