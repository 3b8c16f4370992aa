pub mod BitRows
pub mod SingleRows
pub mod Growth
pub mod Closure
pub mod Callers
