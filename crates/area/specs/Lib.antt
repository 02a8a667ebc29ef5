pub mod Area
pub mod Scaffold
