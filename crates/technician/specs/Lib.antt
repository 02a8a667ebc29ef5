pub mod Silence
pub mod Lock
pub mod Technician
pub mod Evening
