mod Imports
pub mod Cuts
pub mod Folding
pub mod Steps
pub mod Whole
