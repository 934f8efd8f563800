pub mod Terms
pub mod Checks
pub mod Inner
