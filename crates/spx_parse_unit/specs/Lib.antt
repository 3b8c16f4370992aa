pub mod Units
pub mod Answers
