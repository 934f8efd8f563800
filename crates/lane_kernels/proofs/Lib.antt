mod Imports
pub mod Changed
pub mod Faults
pub mod LeafRuns
pub mod Logs
pub mod Numbers
pub mod Reductions
pub mod Stepping
pub mod Stores
pub mod Whole
