use Rattle.actors.proofs.Lemmas.{◌≡◌, ◌∙◌, ℕ, List, length, refl, sym, ap, subst, arith, indices, AreTeam, IsTeam, one_more, all_team}
use Rattle.actors.proofs.team.team_of.Goals as goal

pub loop-cut-preserved : goal.loop-cut-preserved
loop-cut-preserved c =
    let table = c.args.view.now in
    let cuts = c.args.cuts.now in
    subst (AreTeam table cuts _ _) (sym c.in_ok-push.ensures.items)
    (one_more table cuts c.laws_of_view.ensures.lawful c.loop-cut.row c.loop-cut.cut-index _ c.loop-cut.actors.items c.in_ok-fresh_actor.field-0 c.loop-cut-test.true refl
    c.in_ok-fresh_actor.ensures c.loop-cut.invariant)

pub returns : goal.returns
returns c =
    let table = c.args.view.now in
    let cuts = c.args.cuts.now in
    let rows : length (indices c.extents.result) ≡ length table.rows = ap (λ (e : List ℕ). length (indices e)) c.extents.ensures.value ∙ sym c.extents.ensures.table.rows in
    let team = subst (IsTeam table cuts) (sym c.in_ok-push-2.ensures.items)
    (all_team table cuts c.laws_of_view.ensures.lawful c.loop-cut.row c.loop-cut.cut-index c.count.result c.loop-cut.actors.items c.in_ok-fresh_actor-2.field-0 (omega arith)
    (c.count.ensures.rows ∙ rows) c.in_ok-fresh_actor-2.ensures c.loop-cut.invariant) in
    record { shown = team.shown; standing = team.standing; count = team.count }
