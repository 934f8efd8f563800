mod Lemmas
mod Imports
pub mod Blocks
pub mod Numbers
pub mod Rows
pub mod Splices
