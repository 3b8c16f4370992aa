pub mod Arena
mod CountLaws
mod ListingLaws
pub mod ConditionTerms
pub mod ConditionStates
pub mod ConditionForward
mod SharedIds
mod SharedSteps
mod MemoLaws
mod WalkLaws
mod ForkLaws
