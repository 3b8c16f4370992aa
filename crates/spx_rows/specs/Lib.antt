pub mod Bits
pub mod Relations
