pub mod Messages
pub mod Outcomes
pub mod Walks
pub mod Heads
pub mod Readings
pub mod Runs
pub mod Results
