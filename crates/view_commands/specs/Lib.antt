pub mod Changes
pub mod ExitsLaws
pub mod Steps
pub mod Inner
pub mod Imports
