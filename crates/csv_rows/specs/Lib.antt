pub mod Datasets
pub mod Loads
pub mod Texts
pub mod Inner
