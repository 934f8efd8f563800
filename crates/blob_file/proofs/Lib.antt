mod Lemmas
mod Blobs
mod Contents
mod Cuts
mod Fields
mod Filled
mod Fills
mod HeadReads
mod Heads
mod ImageBits
mod Imports
mod Lawful
mod Lies
pub mod Made
mod Maps
mod OneFile
mod Opens
mod Parts
mod Puts
mod Refused
mod SavedFile
mod Tokens
mod Told
mod Typed
pub mod Auto
