pub mod Datagram
pub mod Tell
