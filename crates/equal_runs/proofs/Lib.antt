mod Imports
pub mod Agreeing
pub mod Answers
pub mod Commands
pub mod Entries
pub mod Kernels
pub mod Loads
pub mod Logs
pub mod Names
pub mod News
pub mod Runs
pub mod Shown
pub mod Stencils
pub mod Steps
pub mod Tables
pub mod TallyCounts
pub mod Updates
