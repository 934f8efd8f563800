pub mod Slots
pub mod MortonLaws
pub mod SlotsLaws
pub mod LinesLaws
pub mod ApartLaws
pub use Rattle.extents.specs.Indices
pub use Rattle.extents.specs.IndicesLaws
pub mod Inner
