use Rattle.record_dim.proofs.Imports.{name_utf8}
use Rattle.record_dim.proofs.name.Name.as_str.Goals as goal

pub unreachable-requires : goal.unreachable-requires
unreachable-requires c = c.in-Err.ensures.cases.0 (name_utf8 _ c.self.invariant.name)
