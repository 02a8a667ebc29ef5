pub mod Script
pub mod Tell
pub mod Chain
