pub mod Serve
pub mod Sound
pub mod Kept
