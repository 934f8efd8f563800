-- Words of contracts within the project, which no promise reaches.
pub mod Formula
pub mod Samples
pub mod Tables
