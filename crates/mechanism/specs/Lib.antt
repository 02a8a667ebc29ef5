pub mod State
pub mod Arguments
pub mod Obeys
pub mod Datagram
pub mod Kept
