pub mod Setters
pub mod State
pub mod Arguments
pub mod Obeys
pub mod Kept
pub mod Scaffold
