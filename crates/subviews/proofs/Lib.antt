mod Lemmas
mod Imports
pub mod AtOnce
pub mod Back
pub mod Corners
pub mod Fronts
pub mod Growth
pub mod Near
pub mod Passes
pub mod Printed
pub mod Values
pub mod Ways
