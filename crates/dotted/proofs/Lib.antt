pub mod Fields
pub mod Spellings
pub mod Exacts
pub mod Parses
