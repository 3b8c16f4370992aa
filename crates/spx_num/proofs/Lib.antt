pub mod Divisions
mod Powers
