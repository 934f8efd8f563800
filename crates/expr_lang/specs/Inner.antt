-- Words of contracts within the project, which no promise reaches.
pub mod Exacts
pub mod Lanes
pub mod Mosts
pub mod Steps
pub mod Unknowns
