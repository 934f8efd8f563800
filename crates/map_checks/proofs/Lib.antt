mod Lemmas
mod Imports
mod LastEntry
pub mod ArrayLaws
pub mod BytePlanLaws
pub mod Faults
pub mod JoinRuleLaws
pub mod Limits
pub mod OrderLaws
pub mod PlanLaws
pub mod RuleLaws
pub mod SplitRules
pub mod SwapRuleLaws
pub mod Auto
