mod Imports
pub mod Links
