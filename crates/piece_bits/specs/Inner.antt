-- Words of contracts within the project, which no promise reaches.
pub mod Alongs
pub mod Distances
pub mod Far
pub mod Joins
pub mod Scattered
pub mod Spots
pub mod Stands
