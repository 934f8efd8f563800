-- Words of contracts within the project, which no promise reaches.
pub mod Answers
pub mod Parts
pub mod Teams
