pub mod Largeness
