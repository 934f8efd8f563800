use Rattle.layout_tests.proofs.CopySteps.{by_way}
use Rattle.layout_tests.proofs.copies.copy_so.Goals as goal

pub returns : goal.returns
returns g c =
    by_way c.args.source.now c.args.target.now c.args.steps.now c.copy.new.steps c.requires.strict c.requires.rows c.requires.leaf c.copy.ensures.steps c.args._way c.requires.from c.requires.to
