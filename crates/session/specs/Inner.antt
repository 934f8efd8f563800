-- Words of contracts within the project, which no promise reaches.
pub mod Changes
pub mod Opens
