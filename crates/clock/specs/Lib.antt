pub mod Clock
pub mod Hosts
