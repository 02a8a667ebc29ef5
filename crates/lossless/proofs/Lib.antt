pub mod Layouts
pub mod Again
pub mod Alike
