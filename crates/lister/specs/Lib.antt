pub mod Listing
pub mod Pieces
pub mod Scaffold
pub mod Sample
