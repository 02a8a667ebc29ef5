pub mod Entries
pub mod Contexts
pub mod Pairs
pub mod Keeps
