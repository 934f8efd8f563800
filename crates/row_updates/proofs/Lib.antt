mod Lemmas
mod Imports
pub mod Indexed
pub mod Logs
pub mod Rows
pub mod RunReads
pub mod RunRows
pub mod RunSets
pub mod RunTests
pub mod Taken
pub mod WorthSoFar
pub mod Auto
