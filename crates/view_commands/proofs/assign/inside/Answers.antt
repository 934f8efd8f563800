use Rattle.view_commands.proofs.Indexing.{inside_goes, inside_not, other_rank}
use Rattle.view_commands.proofs.assign.inside.Goals as goal
use Rattle.record_dim.specs.Std.{common_steps, arith}

pub returns-then-index-rank-clause-inside : goal.returns-then-index-rank-clause-inside
returns-then-index-rank-clause-inside c = rw c.bad_index.ensures (inside_not c.args.extents c.args.index.now (other_rank c.args.extents c.args.index.now c.rank.result c.rank.ensures.value c.if-index-rank.true))

pub returns-then-not-holds-clause-inside : goal.returns-then-not-holds-clause-inside
returns-then-not-holds-clause-inside c = grind (arith, common_steps, inside_not)

pub returns-clause-inside : goal.returns-clause-inside
returns-clause-inside c = grind (arith, common_steps, inside_goes)
