pub mod Pieces
pub mod Positions
pub mod Faults
pub mod Reading
pub mod Least
