mod Imports
pub mod Acting
pub mod Advice
pub mod Arms
pub mod Changing
pub mod Indexing
pub mod Runs
pub mod Saving
pub mod Sets
pub mod Shown
pub mod Stencils
pub mod Windows
