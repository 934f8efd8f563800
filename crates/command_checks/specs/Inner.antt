-- Words of contracts within the project, which no promise reaches.
pub mod Bases
pub mod Gives
pub mod Indexed
pub mod Places
pub mod Questions
pub mod Stencils
pub mod Terms
