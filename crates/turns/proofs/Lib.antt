pub mod Worlds
pub mod Outcomes
pub mod Turnings
pub mod Runs
