-- Words of contracts within the project, which no promise reaches.
pub mod Exprs
pub mod Fields
pub mod Gives
pub mod Maps
