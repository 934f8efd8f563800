use Rattle.lane_kernels.proofs.Numbers.{narrow_column, read_whole}
use Rattle.lane_kernels.proofs.rows.read_rows.Goals as goal

pub returns-clause-values : goal.returns-clause-values
returns-clause-values g c = read_whole c.args.view.now c.args.leaf c.args.row _ c.read_run.new.values c.extents-table.ensures.table c.requires.leaf c.read_run.ensures.values

pub returns-clause-narrow : goal.returns-clause-narrow
returns-clause-narrow g c = narrow_column c.args.view.now c.args.leaf c.extents-table.ensures.table c.requires.leaf
