pub mod Delivers
