mod Imports
pub mod Behind
pub mod Gives
pub mod Kept
pub mod Leaves
pub mod Levels
pub mod Lines
pub mod Phrases
pub mod ReadsBack
pub mod Rooms
pub mod Sounds
pub mod Terms
pub mod Words
