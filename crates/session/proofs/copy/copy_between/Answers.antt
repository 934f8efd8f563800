use Rattle.session.proofs.Copies.{kept_to}
use Rattle.session.proofs.copy.copy_between.Goals as goal

pub returns-then-source-target-clause-copied : goal.returns-then-source-target-clause-copied
returns-then-source-target-clause-copied g c = λ d.
    rw c.if-source-target.true (kept_to c.args.views.now.items c.args.target c.index_mut.result.now c.keep.new.view d c.requires.target c.index_mut.ensures.value c.keep.ensures)
