pub mod Bounds
pub mod Feedings
pub mod Tells
