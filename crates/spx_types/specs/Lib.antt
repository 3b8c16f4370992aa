pub mod TypeIds
pub mod Ways
