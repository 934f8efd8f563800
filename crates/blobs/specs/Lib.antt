pub mod Bits
pub mod Turned
pub mod Held
pub mod Moves
pub mod BytesLaws
pub mod WordsLaws
pub mod FieldsLaws
pub mod MovesLaws
