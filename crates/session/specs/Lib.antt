pub mod Stands
pub mod Loads
pub mod Answers
pub mod Bounds
pub mod LoadsLaws
pub mod Inner
pub mod Imports
