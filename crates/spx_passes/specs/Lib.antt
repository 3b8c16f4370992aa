pub mod Positions
pub mod Points
pub mod Occurrences
pub mod Steps
pub mod Targets
pub mod Branches
pub mod Loops
pub mod Directions
