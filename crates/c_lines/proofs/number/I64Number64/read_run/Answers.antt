use Rattle.c_lines.proofs.Lemmas.{length, map, ap, ◌∙◌, run_raised, leaf_type_of, signed_raised}
use Rattle.c_lines.proofs.number.I64Number64.read_run.Goals as goal

pub returns-clause-values : goal.returns-clause-values
returns-clause-values g c =
    let table = c.args.view.now in
    signed_raised (leaf_type_of table c.args.leaf) c.read_run.new.values c.requires.reads ∙ ap (map _) c.read_run.ensures.values
    ∙ run_raised table c.args.leaf c.args.first (length c.args.values.now) c.laws_of_table.ensures.table c.requires.leaf
