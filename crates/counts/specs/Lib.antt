pub mod Announced
pub mod Worked
pub mod Refused
pub mod Told
