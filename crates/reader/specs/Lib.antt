pub mod Numbers
pub mod Read
pub mod Entry
pub mod Context
pub mod Scaffold
pub mod Tell
pub mod Examples
