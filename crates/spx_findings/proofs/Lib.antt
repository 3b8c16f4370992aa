pub mod FindingLaws
pub mod FaultLaws
pub mod ListingLaws
pub mod LeftLaws
