pub mod Codes
pub mod Words
pub mod Reading
pub mod Judgement
pub mod Causes
pub mod Laws
pub mod Outcome
