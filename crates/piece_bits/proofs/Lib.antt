mod Lemmas
mod Imports
mod Distances
mod Remainders
mod Rows
pub mod AlongLaws
pub mod FieldValues
pub mod InPlace
pub mod Numbers
pub mod PieceBytes
pub mod Places
pub mod Puts
pub mod StandLaws
pub mod StretchLaws
pub mod Together
pub mod Values
pub mod Ways
pub mod Wholes
pub mod WideLaws
pub mod WordLaws
pub mod Auto
