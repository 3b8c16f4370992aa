pub mod Places
pub mod FlowFindings
pub mod Tables
pub mod Differences
