pub mod Numbers
pub mod Zeros
pub mod Same
