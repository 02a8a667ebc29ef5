pub mod Tellings
pub mod Handed
pub mod Told
