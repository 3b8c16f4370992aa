pub mod StepLaws
pub mod CertificateLaws
pub mod QuantifierLaws
pub mod QuantifierSteps
pub mod SortLaws
pub mod RewriteLaws
pub mod DivisionLaws
pub mod ElementLaws
pub mod AllSteps
pub mod SortSteps
pub mod Layers
pub mod ChangeLaws
mod NameForms
mod ScopeForms
mod OccurrenceForms
mod SplittingForms
mod ListedForms
