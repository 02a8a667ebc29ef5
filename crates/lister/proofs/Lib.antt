pub mod Readings
pub mod Walks
pub mod Stops
pub mod Ends
pub mod Cuts
