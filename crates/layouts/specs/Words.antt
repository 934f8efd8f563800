-- The words of contracts of what this crate passes on, by their modules.
pub use Rattle.extents.specs.Indices as Indices
pub use Rattle.extents.specs.Windows as Windows
pub use Rattle.lane_kernels.specs.Kernels as Kernels
pub use Rattle.lane_kernels.specs.Reductions as Reductions
pub use Rattle.layout_copy.specs.Copies as Copies
pub use Rattle.map_expr.specs.Terms as Terms
pub use Rattle.record_dim.specs.LeafTypes as LeafTypes
pub use Rattle.record_dim.specs.Leaves as Leaves
pub use Rattle.views.specs.Stores as Stores
pub use Rattle.views.specs.Tables as Tables
pub use Rattle.views.specs.Tallies as Tallies
