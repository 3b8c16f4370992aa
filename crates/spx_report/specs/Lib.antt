pub mod Report
pub mod Limits
pub mod FlowLines
pub mod RuleTexts
pub mod LineLists
