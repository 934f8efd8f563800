use Rattle.map_checks.proofs.Imports.{◌∙◌, sym, row_at, lengths-rows}
use Rattle.map_checks.proofs.base_plan.base_plan.Goals as goal

pub returns-clause-lengths : goal.returns-clause-lengths
returns-clause-lengths g c =
    c.in_ok-lengths.ensures ∙ sym (lengths-rows (row_at c.args.order c.args.extents.now) (g.M.Mapping.layout c.args.mapping.now))
