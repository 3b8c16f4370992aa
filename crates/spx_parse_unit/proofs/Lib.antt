pub mod UnitsGood
pub mod Turns
pub mod UnitsReach
pub mod UnitsExact
mod Parsed
mod Located
mod Indexed
mod BodyExact
