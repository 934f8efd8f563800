use Rattle.layout_copy.proofs.Lemmas.{rules, ◌∙◌, sym, Table, after_log-none, AreAlike, common_steps, moved_way, fields_steps, blobs_copied, runs_copied, runs_back}
use Rattle.map_any.specs.declared.strategy.Strategy.TheVariants as way
use Rattle.layout_copy.proofs.copies.copy.Goals as goal
use Rattle.layout_copy.proofs.copies.copy.Goals.{in-Blobs, in-Runs}
use Rattle.std.proofs.Common.{arith}

pub returns-then-not-are_alike-clause-source : goal.returns-then-not-are_alike-clause-source
returns-then-not-are_alike-clause-source g c = sym (after_log-none c.args.source.now)

pub move_blobs-requires-clause-blobs : goal.move_blobs-requires-clause-blobs
move_blobs-requires-clause-blobs g c = sym (moved_way c.args.source.now c.args.target.now c.way_of-strategy.result way.Blobs c.in-Blobs.is (λ e. cc) c.way_of-strategy.ensures).1

pub move_blobs-requires-clause-modes : goal.move_blobs-requires-clause-modes
move_blobs-requires-clause-modes g c = (moved_way c.args.source.now c.args.target.now c.way_of-strategy.result way.Blobs c.in-Blobs.is (λ e. cc) c.way_of-strategy.ensures).0

pub copy_runs-requires-clause-arrays : goal.copy_runs-requires-clause-arrays
copy_runs-requires-clause-arrays g c = grind (arith, common_steps, runs_back, moved_way)

pub returns-in-Fields-clause-steps : goal.returns-in-Fields-clause-steps
returns-in-Fields-clause-steps g c = grind (arith, common_steps, fields_steps)

pub returns-clause-copied : goal.returns-clause-copied
returns-clause-copied g c =
    let source : Table = c.args.source.now in
    let old : Table = c.args.target.now in
    let now : Table = c.match-strategy.target in
    let new : Table = c.touch_all-2.new.self in
    let alike : AreAlike source old = search rules in
    let table = c.laws_of_table.ensures.table in
    let to = c.laws_of_table-2.ensures.table in
    elim c.match-strategy.branch [
      | in-Blobs w ↦ let by = moved_way source old c.way_of-strategy.result way.Blobs w.in-Blobs.is (λ e. cc) c.way_of-strategy.ensures in
          blobs_copied source old now new table to alike (w.target-is ∙ w.move_blobs.ensures.rows) c.touch_all-2.ensures by.0 by.1
      | in-Runs w ↦ let by = moved_way source old c.way_of-strategy.result way.Runs w.in-Runs.is (λ e. cc) c.way_of-strategy.ensures in
          runs_copied source old now new table to alike (w.target-is ∙ w.copy_runs.ensures.rows) c.touch_all-2.ensures by.0 by.1.1
    ]
