pub mod Times
pub mod Commands
pub mod Shapes
pub mod Keeps
pub mod Closures
pub mod Steps
