pub mod Counts
mod Taking
