pub mod Again
pub mod Lossless
