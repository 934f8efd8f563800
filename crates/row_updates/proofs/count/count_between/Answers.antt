use Rattle.row_updates.proofs.Lemmas.{rules, arith, ◌≡◌, ◌<◌, ◌+◌, ◌∙◌, Err, length, ℕ, ap, sym, refl, subst, bound_term, Table, IsCounted, index_read, row_counted, count_ended, one_at_most}
use Rattle.row_updates.proofs.count.count_between.Goals as goal

pub loop-row-init : goal.loop-row-init
loop-row-init g c = record { still = refl; few = omega arith; counted = λ old before so_far. (let none : before + 0 ≡ before = omega arith in rw none so_far) }

pub returns-in_err-passes-clause-stopped : goal.returns-in_err-passes-clause-stopped
returns-in_err-passes-clause-stopped g c = λ old before so_far.
    let kept = c.loop-row.invariant in
    let is : c.from_residual.result ≡ Err c.in_err-passes.field-0.0 = search rules in
    let same : c.extents-extents.result ≡ c.loop-row.view.extents = c.extents-extents.ensures.value ∙ sym (ap (λ (s : Table). s.extents) kept.still) in
    let index = index_read c.loop-row.view.extents c.extents-extents.result c.put_index.new.numbers c.loop-row.row c.rank.result same c.rank.ensures.value c.put_index.ensures in
    let here = kept.counted old before so_far in
    let rows : length c.loop-row.view.rows ≡ length c.args.view.now.rows = ap (λ (t : Table). length t.rows) kept.still in
    let small : c.loop-row.row < length c.loop-row.view.rows = omega (arith, rows) in
    rw is (count_ended old c.loop-row.view c.passes.new.view (bound_term c.args.filter.now) c.loop-row.row (before + c.loop-row.count) c.in_err-passes.field-0.0 small here
    (sym (rw index at c.in_err-passes.ensures.value)) c.in_err-passes.ensures.named (rw index at c.passes.ensures.same))

pub loop-row-preserved : goal.loop-row-preserved
loop-row-preserved g c =
    let kept = c.loop-row.invariant in
    let same : c.extents-extents.result ≡ c.loop-row.view.extents = c.extents-extents.ensures.value ∙ sym (ap (λ (s : Table). s.extents) kept.still) in
    let index = index_read c.loop-row.view.extents c.extents-extents.result c.put_index.new.numbers c.loop-row.row c.rank.result same c.rank.ensures.value c.put_index.ensures in
    record {
      still = search rules;
      few = omega (arith, kept.few, one_at_most c.in_ok-passes.field-0, c.from.ensures);
      counted = λ old before so_far.
          let sum : before + (c.loop-row.count + c.from.result) ≡ (before + c.loop-row.count) + c.from.result = omega arith in
          rw sum (row_counted old c.loop-row.view c.passes.new.view (bound_term c.args.filter.now) c.loop-row.row (before + c.loop-row.count) c.from.result c.in_ok-passes.field-0
          (kept.counted old before so_far) (sym (rw index at c.in_ok-passes.ensures.value)) c.from.ensures
          (rw index at c.passes.ensures.same));
    }

pub returns-clause-done : goal.returns-clause-done
returns-clause-done g c = λ old before so_far.
    let end : c.loop-row.row ≡ c.args.end = omega arith in
    subst (λ (n : ℕ). IsCounted old (bound_term c.args.filter.now) c.loop-row.view n (before + c.loop-row.count)) end (c.loop-row.invariant.counted old before so_far)
