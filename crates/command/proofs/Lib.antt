pub mod Acts
pub mod Books
