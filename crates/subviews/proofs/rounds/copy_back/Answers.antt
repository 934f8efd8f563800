use Rattle.subviews.proofs.Lemmas.{rules, ◌≡◌, ◌∙◌, length, take, sym, common_steps, arith, all_raised, all_fit, all_kept}
use Rattle.subviews.proofs.rounds.copy_back.Goals as goal

pub put_run-requires-clause-fits : goal.put_run-requires-clause-fits
put_run-requires-clause-fits g c =
    let long : length (take c.args.run.rows c.args.values.now) ≡ c.args.run.rows = search rules in
    all_fit c.args.view.now c.args.buffer.now c.args.leaf c.args.run.first c.args.run.rows c.read_run.new.values c.requires.buffer c.laws_of_table.ensures.table c.laws_of_table-2.ensures.table
    c.requires.leaf_in c.requires.rows_in (rw long at c.read_run.ensures.values) (sym c.mode.ensures ∙ c.in-Strict.is)

pub returns-in-Strict-clause-stored : goal.returns-in-Strict-clause-stored
returns-in-Strict-clause-stored g c = grind (arith, common_steps, all_raised)

pub returns-in-Wrap-clause-stored : goal.returns-in-Wrap-clause-stored
returns-in-Wrap-clause-stored g c = grind (arith, common_steps, all_kept)
