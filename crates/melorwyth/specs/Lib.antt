pub mod Answers
pub mod Messages
pub mod Promises
pub mod Told
