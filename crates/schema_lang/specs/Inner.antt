-- Words of contracts within the project, which no promise reaches.
pub mod Bodies
pub mod NextTokens
pub mod Spelled
