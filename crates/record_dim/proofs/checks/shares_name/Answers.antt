use Rattle.record_dim.proofs.Imports.{ap, ◌∙◌, list_any, nat_cmp, is_at, slice_cmp}
use Rattle.record_dim.proofs.Twice.{twice_start, twice_step, absent_from}
use Rattle.record_dim.proofs.checks.shares_name.Goals as goal

pub loop-left-init : goal.loop-left-init
loop-left-init c = twice_start _ _ (λ q. ap (list_any (is_at (slice_cmp nat_cmp q))) c.new-seen.ensures.empty)

pub loop-left-preserved : goal.loop-left-preserved
loop-left-preserved c =
    let h = rw c.in-More.is at c.loop-left.invariant in
    let updates = rw c.deref.ensures at c.in_ok-insert.ensures.updates.0 in
    let absent = rw c.deref.ensures at (absent_from _ _ c.in_ok-insert.ensures.added c.if-not-branch.false) in
    rw c.deref-left.ensures (twice_step _ _ _ _ updates absent ∙ h)
