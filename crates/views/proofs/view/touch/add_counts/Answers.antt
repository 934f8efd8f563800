use Rattle.views.proofs.Lemmas.{◌≡◌, ◌*◌, ◌-◌, ◌^◌, min, Option, Some, option_map, ap, sym, ◌∙◌, arith, LeafCounts, leaf_counts, Counts, access_to, times_accesses, counts_after, counts_none}
use Rattle.views.proofs.view.touch.add_counts.Goals as goal

pub returns-else-each-gt0-clause-counted : goal.returns-else-each-gt0-clause-counted
returns-else-each-gt0-clause-counted c =
    let a = c.args in
    let counts = leaf_counts c.in-Some.counts in
    let each : c.saturating_mul-each.result ≡ min (a.rows * a.times) (2 ^ 64 - 1) = c.saturating_mul-each.ensures in
    let none : a.rows * a.times ≡ 0 = omega (arith, each, c.if-each-gt0.false) in
    ap (λ (counts : LeafCounts). Some counts) (counts_none a.write a.times a.leaves a.rows counts none)
    ∙ ap (λ (o : Option Counts). option_map (counts_after (times_accesses (access_to a.write) a.times a.leaves a.rows)) (option_map leaf_counts o)) (sym c.in-Some.is)
