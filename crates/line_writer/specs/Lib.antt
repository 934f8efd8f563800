pub mod Canonical
pub mod Texts
pub mod Imports
