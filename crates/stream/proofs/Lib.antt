pub mod Bytes
pub mod Stream
pub mod Lent
