use Rattle.linearize.proofs.Imports.{◌≡◌, max, take}
use Rattle.std.proofs.Common.{fold}
use Rattle.linearize.proofs.greatest.Given as goal

abbrev pub invariant-loop-extent : goal.invariant-loop-extent
invariant-loop-extent l = l.greatest ≡ fold max 0 (take l.extent-index l.extents)
