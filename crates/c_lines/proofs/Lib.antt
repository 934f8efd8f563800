mod Lemmas
mod Imports
pub mod Anew
pub mod Answering
pub mod BlobBytes
pub mod BoxRows
pub mod CallerBytes
pub mod Commanding
pub mod Copied
pub mod InTurn
pub mod Making
pub mod Parts
pub mod Relaying
pub mod Tellings
pub mod Words
