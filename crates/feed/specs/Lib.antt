pub mod Feed
pub mod Scaffold
pub mod Tell
