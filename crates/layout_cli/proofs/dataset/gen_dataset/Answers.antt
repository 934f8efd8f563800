use Rattle.layout_cli.proofs.Imports.{◌∙◌, rules, arith, dataset_text}
use Rattle.layout_cli.proofs.Texts.{row_put}
use Rattle.layout_cli.proofs.dataset.gen_dataset.Goals as goal

pub loop-row-init : goal.loop-row-init
unfolding dataset_text
loop-row-init c = search rules

pub loop-row-preserved : goal.loop-row-preserved
loop-row-preserved c = row_put c.loop-row.text c.push_row.new.text c.args.n c.loop-row.row (omega arith) c.in_ok-push_row.ensures ∙ c.loop-row.invariant
