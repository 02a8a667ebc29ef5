pub mod Untouched
pub mod Watched
pub mod Silent
pub mod Locked
pub mod Free
pub mod Heard
pub mod Technician
pub mod Evening
