pub mod Steps
pub mod Places
