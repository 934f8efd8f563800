pub mod AlikeLaws
pub mod BasesLaws
pub mod SessionEntries
pub mod PlacesLaws
pub mod GivesLaws
pub mod Inner
pub mod Imports
