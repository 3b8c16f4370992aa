pub mod Converted
pub mod Powers
