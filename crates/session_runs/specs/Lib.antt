pub mod Steps
pub mod Scripts
pub mod Heads
pub mod BlankLaws
pub mod HeadLaws
pub mod RunLaws
pub mod Imports
