use Rattle.record_dim.proofs.Imports.{fields_of, arith}
use Rattle.record_dim.proofs.Apart.{no_leaf, only_leaf, leaf_place, single_leaf}
use Rattle.record_dim.proofs.schema.Schema.leaf_of.Goals as goal

pub returns-in_err-first-clause-only : goal.returns-in_err-first-clause-only
returns-in_err-first-clause-only c = λ leaf h. absurd (no_leaf (fields_of c.args.self.now.fields) c.args.self.now.fit c.args.path.now leaf h (rw c.as_slice.ensures.value at c.in_err-first.ensures.none))

pub returns-in-Leaf-clause-some : goal.returns-in-Leaf-clause-some
returns-in-Leaf-clause-some c = grind (arith, leaf_place, fields_of)

pub returns-in-Leaf-clause-only : goal.returns-in-Leaf-clause-only
returns-in-Leaf-clause-only c = grind (arith, only_leaf, fields_of)

pub returns-in_default-clause-only : goal.returns-in_default-clause-only
returns-in_default-clause-only c = grind (arith, only_leaf, fields_of, single_leaf)
