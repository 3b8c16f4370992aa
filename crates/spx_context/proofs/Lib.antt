mod Closed
mod Conversions
pub mod Unchanged
