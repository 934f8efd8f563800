mod Imports
pub mod Heads
pub mod Runs
pub mod Texts
