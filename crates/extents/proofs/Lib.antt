mod Imports
pub mod Auto
