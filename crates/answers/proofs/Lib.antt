pub mod Tells
pub mod Fits
pub mod Behind
