pub mod States
pub mod Delivers
pub mod Takes
pub mod Tells
