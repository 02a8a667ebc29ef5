pub mod Methods
pub mod Tests
pub mod Answers
pub mod Scaffold
