pub mod Two
pub mod Clock
pub mod Joins
pub mod Hosts
