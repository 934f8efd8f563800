mod Imports
pub mod Apart
pub mod Fit
pub mod Gathered
pub mod Lookup
pub mod Twice
pub mod Walks
