mod Lemmas
mod Imports
pub mod Advising
pub mod Cheapest
pub mod Chosen
pub mod CostLaws
pub mod CurveLaws
pub mod JudgedLaws
pub mod Listing
pub mod PoolLaws
pub mod RuledLaws
pub mod SplitLaws
pub mod SteadyLaws
pub mod SweepLaws
pub mod Tried
pub mod TriedRuns
pub mod WarmLaws
pub mod Auto
