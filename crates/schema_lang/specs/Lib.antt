pub mod Parsing
pub mod LineOf
pub mod VersionOf
pub mod Inner
pub mod Imports
