mod Imports
pub mod Groups
pub mod Inner
