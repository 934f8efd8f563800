use Rattle.row_updates.proofs.Indexed.{far_put}
use Rattle.row_updates.proofs.index.put_far.Goals as goal

pub returns : goal.returns
returns c = far_put c.args.extents.now c.index_of-index.result.items c.as_slice.result.now c.put_all.new.numbers c.args.row c.as_slice.ensures.value c.index_of-index.ensures.entry c.index_of-index.ensures.inside c.put_all.ensures
