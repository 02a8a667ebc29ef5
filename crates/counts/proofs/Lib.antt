pub mod Refuses
pub mod Tells
