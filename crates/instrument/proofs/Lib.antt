mod Imports
pub mod Entries
pub mod Lines
pub mod Numbered
pub mod Touches
pub mod Warming
