pub mod Arms
pub mod Choices
pub mod Rows
