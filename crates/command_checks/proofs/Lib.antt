mod Imports
pub mod Each
pub mod Inside
pub mod Limits
pub mod NameTables
pub mod Passes
pub mod WeightedTerms
