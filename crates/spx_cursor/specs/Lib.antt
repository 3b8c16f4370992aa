pub mod Reading
pub mod Operators
pub mod Answers
