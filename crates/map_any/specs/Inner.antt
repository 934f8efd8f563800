-- Words of contracts within the project, which no promise reaches.
pub mod ArrayRuns
pub mod ArraySlots
pub mod Filling
