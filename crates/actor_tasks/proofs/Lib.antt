mod Imports
pub mod NextLaws
pub mod Touched
