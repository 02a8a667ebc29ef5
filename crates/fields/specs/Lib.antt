pub mod Place
pub mod Fields
