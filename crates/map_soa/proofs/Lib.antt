mod Imports
pub mod Blobs
pub mod Placed
