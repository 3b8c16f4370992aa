pub mod CaseForms
mod ChoiceSteps
