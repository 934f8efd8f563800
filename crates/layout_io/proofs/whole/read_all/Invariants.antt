use Rattle.std.proofs.Common.{◌≡◌, ◌+◌, ◌-◌, length}
use Rattle.layout_io.proofs.ReadsFront.{ReadsFront}
use Rattle.layout_io.proofs.whole.read_all.Given as goal

abbrev pub invariant-loop-count : goal.invariant-loop-count
invariant-loop-count g l = ReadsFront g.H.Shelf.files g.H.Shelf.faults l.initial.shelf l.shelf l.name l.bytes.items l.limit × (length l.piece ≡ 65536)

abbrev pub decreases-loop-count : goal.decreases-loop-count
decreases-loop-count g l = l.limit + 1 - length l.bytes.items
