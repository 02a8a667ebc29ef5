pub mod Text
pub mod Scaffold
