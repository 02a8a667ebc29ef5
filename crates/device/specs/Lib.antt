pub mod Setters
pub mod State
pub mod Obeys
pub mod Time
pub mod Run
pub mod Kept
pub mod Closure
