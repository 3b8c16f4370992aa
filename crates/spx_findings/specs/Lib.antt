pub mod Findings
pub mod Listing
pub mod LeftClaims
