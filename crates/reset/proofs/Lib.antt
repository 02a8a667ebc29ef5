pub mod Datagrams
pub mod Tells
