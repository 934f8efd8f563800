mod Imports
mod MostSoFar
pub mod Along
pub mod Unknown
pub mod Within
