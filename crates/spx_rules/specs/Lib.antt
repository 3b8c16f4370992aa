pub mod Allowed
pub mod Arms
pub mod NamedOnce
pub mod SetsOfSub
