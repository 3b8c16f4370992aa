pub mod ClosedClaims
pub mod Folds
pub mod Tables
pub mod Wide
pub mod Verdicts
pub mod Questions
