pub mod Lines
pub mod Inputs
pub mod Given
pub mod Results
pub mod Laws
pub mod Mirror
