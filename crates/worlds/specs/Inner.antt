-- Words of contracts within the project, which no promise reaches.
pub mod Details
pub mod Steps
