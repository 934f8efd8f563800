mod Lemmas
mod Imports
pub mod BoxWalks
pub mod PartWalks
pub mod Held
