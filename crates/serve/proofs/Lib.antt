pub mod Answers
pub mod Serves
pub mod Replies
pub mod Keeps
