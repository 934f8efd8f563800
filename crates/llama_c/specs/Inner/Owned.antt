-- What a handle owns: the block of the view that it holds, or nothing.
use Rattle.std.specs.Prelude.{Option, Some, None}
use Rattle.record_dim.specs.Std.{coded_option, Global, box_owns}
use base.Fml.{Fml, ftrue}
use base.Stored.{Coded}
use denote.RawPtr.{Ptr}
use Rattle.std.specs.contracts.impls.GlobalAllocator.TheImpl.{ghosts}
use Rattle.views.specs.contracts.view.View.{the_row}

-- how a ghost field keeps a table, or none
abbrev pub held_coded : Coded (Option the_row.Denot)
held_coded = coded_option the_row.coded

-- a block of the allocator with a view of this table in it, or nothing
abbrev pub part_owns : Global → Ptr → Option the_row.Denot → Fml
part_owns alloc at None = ftrue
part_owns alloc at (Some table) = box_owns (ghosts.dealloc_token alloc) the_row at table
