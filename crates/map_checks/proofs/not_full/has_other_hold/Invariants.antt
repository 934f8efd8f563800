-- none so far is stored in another way
use Rattle.map_checks.proofs.Imports.{◌≡◌, length, zip_first, zip_second, iter_rest, differ}
use Rattle.map_checks.proofs.not_full.has_other_hold.Given as goal

abbrev pub invariant-loop-hold : goal.invariant-loop-hold
invariant-loop-hold l =
    (goal.iterator-loop-hold).can_next l.hold-iterator ×
    (goal.iterator-loop-hold).is_finite l.hold-iterator ×
    (length (iter_rest (zip_first l.hold-iterator)) ≡ length (iter_rest (zip_second l.hold-iterator))) ×
    (differ l.holds l.others ≡ differ (iter_rest (zip_first l.hold-iterator)) (iter_rest (zip_second l.hold-iterator)))
