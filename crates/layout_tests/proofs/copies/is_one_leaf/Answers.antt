use Rattle.record_dim.specs.Std.{rules, ◌≡◌, length, arith}
use Rattle.record_dim.specs.Prelude.{leaves, schema_fields}
use Rattle.record_dim.specs.declared.leaf_type.LeafType.TheVariants.{U32}
use Rattle.layout_tests.proofs.CopySteps.{one_leaf}
use Rattle.layout_tests.proofs.copies.is_one_leaf.Goals as goal

pub returns : goal.returns
returns c = λ equal.
    let one : length (leaves (schema_fields c.args.schema.now)) ≡ 1 = grind arith in
    let kind : c.leaf_type.result ≡ U32 = search (rules, equal) in
    one_leaf (schema_fields c.args.schema.now) c.leaf_type.result one c.leaf_type.ensures kind
