mod Lemmas
mod Imports
pub mod Copies
pub mod CopySteps
pub mod Named
pub mod Opening
pub mod Reading
pub mod Steps
pub mod Views
