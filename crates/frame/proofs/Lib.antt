pub mod Entries
pub mod Counts
pub mod Contexts
pub mod Walks
pub mod Headers
pub mod Ways
pub mod Sounds
pub mod Bytes
