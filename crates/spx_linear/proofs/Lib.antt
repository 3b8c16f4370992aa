pub mod TermForms
pub mod Multiples
pub mod Products
pub mod FormLaws
pub mod NumericLaws
pub mod LinearLaws
pub mod RefutationLaws
