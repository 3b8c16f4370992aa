pub mod Exact
pub mod Widths
