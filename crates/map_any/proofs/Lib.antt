mod Lemmas
mod Imports
pub mod AnyFacts
pub mod ArrayLaws
pub mod Built
pub mod CellFacts
pub mod EvenLaws
pub mod Filling
pub mod LeafLaws
pub mod RunLaws
pub mod SlotRows
