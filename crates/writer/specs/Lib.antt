pub mod Numbers
pub mod Write
pub mod Round
pub mod Scaffold
