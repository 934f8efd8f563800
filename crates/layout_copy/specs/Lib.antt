pub mod Imports
pub mod Copies
pub mod Costs
pub mod OwnLaws
pub mod Inner
