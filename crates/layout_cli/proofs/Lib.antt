mod Imports
mod Negated
mod Texts
mod Words
pub mod Equals
pub mod FileLines
pub mod Generated
pub mod NoFile
pub mod Readable
pub mod Runs
pub mod ScriptLines
