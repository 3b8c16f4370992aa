pub mod Before
pub mod Ends
pub mod Found
pub mod Ids
pub mod Steps
pub mod Units
