pub mod State
pub mod Outcome
pub mod Check
pub mod Calls
pub mod Deliver
pub mod Take
pub mod Promises
pub mod Tell
