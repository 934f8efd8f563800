use Rattle.row_updates.proofs.Lemmas.{map, rules, arith, ◌≡◌, ◌<◌, ◌∙◌, Err, length, ap, sym, refl, length-set, filter_term, setting_of, Table, index_read, rows_ended, rows_more}
use Rattle.row_updates.proofs.update.update_between.Goals as goal

pub loop-row-init : goal.loop-row-init
loop-row-init g c = record { still = refl; count = refl; updated = λ old so_far. so_far }

pub returns-in_err-update_row-clause-stopped : goal.returns-in_err-update_row-clause-stopped
returns-in_err-update_row-clause-stopped g c = λ old so_far.
    let sets = map setting_of c.args.sets.now in
    let before = c.loop-row.invariant in
    let is : c.from_residual.result ≡ Err c.in_err-update_row.field-0.0 = search rules in
    let same : c.extents-extents.result ≡ c.loop-row.view.extents = c.extents-extents.ensures.value ∙ sym (ap (λ (s : Table). s.extents) before.still) in
    let index = index_read c.loop-row.view.extents c.extents-extents.result c.put_index.new.numbers c.loop-row.row c.rank.result same c.rank.ensures.value c.put_index.ensures in
    let here = before.updated old so_far in
    let small : c.loop-row.row < length old.rows = omega (arith, here.count, before.count) in grind (arith, rows_ended)

pub loop-row-preserved : goal.loop-row-preserved
loop-row-preserved g c =
    let sets = map setting_of c.args.sets.now in
    let before = c.loop-row.invariant in
    let same : c.extents-extents.result ≡ c.loop-row.view.extents = c.extents-extents.ensures.value ∙ sym (ap (λ (s : Table). s.extents) before.still) in
    let index = index_read c.loop-row.view.extents c.extents-extents.result c.put_index.new.numbers c.loop-row.row c.rank.result same c.rank.ensures.value c.put_index.ensures in
    let stored = rw index at c.in_ok-update_row.ensures.stored in
    record {
      still = search rules;
      count = ap (λ (t : Table). length t.rows) stored.2 ∙ length-set c.loop-row.view.rows c.loop-row.row stored.0 ∙ before.count;
      updated = λ old so_far.
          let here = before.updated old so_far in
          let small : c.loop-row.row < length old.rows = omega (arith, here.count, before.count) in
          rows_more old c.loop-row.view c.update_row.new.view (filter_term c.args.filter) sets c.loop-row.row stored.0 small here stored.1 stored.2;
    }
