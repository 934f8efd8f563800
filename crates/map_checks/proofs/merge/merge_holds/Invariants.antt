-- the holds so far, and how many of each side
use Rattle.map_checks.proofs.Imports.{◌≡◌, take, merged, rank_first, rank_rest}
use Rattle.map_checks.proofs.merge.merge_holds.Given as goal

abbrev pub invariant-loop-is_first : goal.invariant-loop-is_first
invariant-loop-is_first l =
    (l.holds ≡ merged (take l.is_first-index l.side) l.first l.rest)
    × (l.from_first ≡ rank_first l.side l.is_first-index) × (l.from_rest ≡ rank_rest l.side l.is_first-index)
