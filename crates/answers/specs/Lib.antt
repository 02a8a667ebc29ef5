pub mod Numbers
pub mod Fits
pub mod Laws
pub mod Tell
