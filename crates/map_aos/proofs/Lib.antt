mod Imports
pub mod Blob
pub mod Parts
