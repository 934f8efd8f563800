-- Words of contracts within the project, which no promise reaches.
pub mod Readers
pub mod Unquoted
