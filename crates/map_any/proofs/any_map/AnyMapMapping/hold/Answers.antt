use Rattle.map_any.proofs.Lemmas.{ℕ, ◌≡◌, ◌<◌, List, length, slice_get, sym, subst, arith, slice_get-get_or, schema_fields, kinds_of, Hold, term_of, AnyMap, leaf_cells, common_steps, hold_in}
use Rattle.map_any.proofs.any_map.AnyMapMapping.hold.Goals as goal

inside : (m : AnyMap) (holds : List Hold) (cell : ℕ) → holds ≡ m.holds → cell < length (leaf_cells (kinds_of (schema_fields m.schema))) → cell < length holds
inside m holds cell is low =
    subst (λ (hs : List Hold). cell < length hs) (sym is) (hold_in (term_of m.expr) (schema_fields m.schema) m.holds cell m.held low)

pub bounds-as_slice-cell : goal.bounds-as_slice-cell
bounds-as_slice-cell c = inside c.args.self.now c.as_slice.result.now c.args.cell c.as_slice.ensures c.requires

pub offset_bounds-as_slice-cell : goal.offset_bounds-as_slice-cell
offset_bounds-as_slice-cell c = grind (arith, common_steps, inside)

pub returns : goal.returns
returns c = grind (arith, common_steps, slice_get, slice_get-get_or, inside)
