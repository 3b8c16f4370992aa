pub mod Callers
pub mod Closings
pub mod Scans
pub mod Grows
pub mod Levels
