use Rattle.session.proofs.Copies.{copied_self}
use Rattle.session.proofs.copy.keep.Goals as goal

pub returns : goal.returns
returns c = copied_self c.args.view.now c.copy_self.new.view c.schema-table.ensures.table c.copy_self.ensures
