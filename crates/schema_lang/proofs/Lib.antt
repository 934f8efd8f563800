mod Imports
pub mod CommandLaws
pub mod Depths
pub mod LineLaws
pub mod LineOfLaws
pub mod SpellingLaws
pub mod VersionLaws
pub mod Whole
pub mod Auto
