use Rattle.views.proofs.Lemmas.{◌≡◌, sym, ap, ◌∙◌, arith, rules, to_z, of_z, w128, to_z-of_z, get_or_from_slice_get, LeafType, Truth, kinds_of, schema_fields, declared, kind_at, common_steps, laid_here, raw_seen, strict_seen, declared_seen, rows_there, leaves_there}
use Rattle.views.proofs.view.View.read.Goals as goal

pub read_by_rule-raw-requires-clause-leaf_in : goal.read_by_rule-raw-requires-clause-leaf_in
read_by_rule-raw-requires-clause-leaf_in c = omega (arith, c.requires.leaf_in, leaves_there c.self.invariant.1 c.self.view_is c.self.invariant.0)

pub read_by_rule-raw-requires-clause-row_in : goal.read_by_rule-raw-requires-clause-row_in
read_by_rule-raw-requires-clause-row_in c = omega (arith, c.requires.row_in, rows_there c.self.invariant.1 c.self.view_is c.self.invariant.0)

pub read_by_rule-raw-requires-clause-laid : goal.read_by_rule-raw-requires-clause-laid
read_by_rule-raw-requires-clause-laid c = grind (arith, common_steps, laid_here)

-- a strict view holds the entry, and any other a number that stands for it
pub returns-in-Strict : goal.returns-in-Strict
returns-in-Strict c =
    let read = to_z-of_z w128 c.read_by_rule-raw.result (search rules) ∙ c.read_by_rule-raw.ensures
    ∙ strict_seen c.self.invariant.1 c.self.view_is c.self.invariant.0 c.as_slice.ensures.value c.args.row c.args.leaf c.requires.row_in c.requires.leaf_in c.in-Strict.is in
    record { value = read; declared = declared_seen c.self.invariant.1 c.self.view_is c.args.row c.args.leaf c.requires.row_in c.requires.leaf_in read }

pub returns-in-Wrap : goal.returns-in-Wrap
returns-in-Wrap c =
    let kinds = kinds_of (schema_fields c.self.inside.schema) in
    let raw = c.read_by_rule-raw.result in
    let kind_is : kind_at kinds c.args.leaf ≡ c.leaf_type.result = get_or_from_slice_get kinds c.args.leaf c.leaf_type.result Truth c.leaf_type.ensures in
    let read = to_z-of_z w128 c.declared.result (search rules) ∙ c.declared.ensures
    ∙ ap (λ (k : LeafType). declared k (to_z w128 (of_z w128 raw))) (sym kind_is)
    ∙ ap (declared (kind_at kinds c.args.leaf)) (to_z-of_z w128 raw (search rules) ∙ c.read_by_rule-raw.ensures)
    ∙ raw_seen c.self.invariant.1 c.self.view_is c.self.invariant.0 c.as_slice.ensures.value c.args.row c.args.leaf c.requires.row_in c.requires.leaf_in in
    record { value = read; declared = declared_seen c.self.invariant.1 c.self.view_is c.args.row c.args.leaf c.requires.row_in c.requires.leaf_in read }
