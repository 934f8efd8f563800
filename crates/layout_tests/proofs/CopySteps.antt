-- What copies of 1,000 rows of one leaf of four bytes cost.
use Rattle.record_dim.specs.Std.{◌≡◌, ◌≤◌, ◌+◌, ◌*◌, ◌∙◌, ℕ, List, [], ◌∷◌, length, sum_by, Option, Some, inl, refl, sym, ap, arith, slice_get, unwrap_or, flat_map, range_with_len, length-map}
use Rattle.extents.specs.Indices.{indices}
use Rattle.extents.specs.declared.order.Order.TheVariants.{Row}
use Rattle.linearize.specs.Slots.{row_at}
use Rattle.places.specs.Prelude.{widths_of, Owner, cells_of, fields, packed_aos, length-parts}
use Rattle.places.specs.declared.forms.AosForm.TheVariants.{Packed}
use Rattle.places.specs.declared.forms.SoaForm.TheVariants.{Multi}
use Rattle.record_dim.specs.Prelude.{kinds_of, leaves, Fields}
use Rattle.record_dim.specs.declared.leaf_type.LeafType.{LeafType}
use Rattle.record_dim.specs.declared.leaf_type.LeafType.TheVariants.{U32}
use Rattle.piece_bits.specs.declared.mode.StoreMode.TheVariants.{Strict}
use Rattle.map_expr.specs.Terms.{Aos, Soa, Aosoa}
use Rattle.map_checks.specs.Prelude.{layout_by, leaf_cells, length-in_rows, sum-blobs}
use Rattle.map_any.specs.Strategies.{IsStrategy}
use Rattle.map_any.specs.declared.strategy.Strategy.{Strategy}
use Rattle.map_any.specs.declared.strategy.Strategy.TheVariants as way
use Rattle.views.specs.Prelude.{blob_steps, Table}
use Rattle.layout_copy.specs.Costs.{copy_cost, steps_before, IsWay, MayMoveTo}
use Rattle.layout_tests.specs.Inner.Ways.{from_of, to_of, most_steps}

pieces : steps_before 1000 1000 8 (4 ∷ []) 1000 ≡ 125
unfolding steps_before
pieces = refl

-- the blob of so many packed records of four bytes
packed_bits : (slots : ℕ) → sum_by length (packed_aos slots (32 ∷ [])) ≡ slots * 32
packed_bits slots =
    let cells : List (ℕ × ℕ) = cells_of (32 ∷ []) in
    let blob : List Owner = flat_map (λ slot. fields slot cells) (range_with_len 0 slots) in
    let one : sum_by length (blob ∷ []) ≡ length blob = omega arith in
    one ∙ length-parts (λ slot. fields slot cells) 32 (λ slot. refl) 0 slots

one_blob : (layout : List (List Owner)) → length layout ≡ 1 → sum_by length layout ≡ 8 * 4000 → blob_steps layout ≡ 63
one_blob [] one bits = absurd (omega (arith, one))
one_blob (blob ∷ []) one bits =
    let long : length blob ≡ 32000 = omega (arith, bits) in
    rw long refl
one_blob (blob ∷ other ∷ blobs) one bits = absurd (omega (arith, one))

packed_steps : (held : Fields) (extents : List ℕ) → length (indices extents) ≡ 1000 → kinds_of held ≡ U32 ∷ [] → blob_steps (layout_by (Aos Packed Row) extents held) ≡ 63
packed_steps held extents rows kinds =
    let slots : ℕ = length (indices extents) in
    let layout : List (List Owner) = packed_aos slots (widths_of (leaf_cells (kinds_of held))) in
    let bits : sum_by length layout ≡ 8 * 4000 =
    ap (λ (ks : List LeafType). sum_by length (packed_aos slots (widths_of (leaf_cells ks)))) kinds ∙ packed_bits slots ∙ ap (λ (n : ℕ). n * 32) rows in
    one_blob (layout_by (Aos Packed Row) extents held) (length-in_rows (row_at Row extents) layout) (sum-blobs (row_at Row extents) layout ∙ bits)

-- a copy between strict views, which goes by the way of their expressions and takes no more steps than that costs
module _ (source target : Table) (old new : ℕ) (strict : (source.mode ≡ Strict) × (target.mode ≡ Strict)) (rows : length (indices target.extents) ≡ 1000) (kinds : kinds_of target.fields ≡ U32 ∷ [])
    (within : (strategy : Strategy) → IsWay source target strategy → new ≤ old + copy_cost strategy source.mapping target.mapping target.fields target.extents) where
  goes : (strategy : Strategy) → IsStrategy source.mapping target.mapping strategy → new ≤ old + copy_cost strategy source.mapping target.mapping target.fields target.extents
  goes strategy is =
      let may : MayMoveTo source target = rw strict.0 tt in
      within strategy (inl (may, is))

  by_runs : source.mapping ≡ Soa Multi Row → target.mapping ≡ Aosoa 8 Row → new ≤ old + 125
  by_runs from to =
      let is : IsStrategy source.mapping target.mapping way.Runs = rw (from, to) ((λ e. cc), refl) in
      let few = rw (from, to) at (goes way.Runs is) in
      let sum = rw (rows, kinds) at few in
      omega (arith, sum, pieces)

  by_blobs : source.mapping ≡ Aos Packed Row → target.mapping ≡ Aos Packed Row → new ≤ old + 63
  by_blobs from to =
      let is : IsStrategy source.mapping target.mapping way.Blobs = rw (from, to) refl in
      let few : new ≤ old + blob_steps (layout_by target.mapping target.extents target.fields) = goes way.Blobs is in
      let sum = rw to at few in
      omega (arith, sum, packed_steps target.fields target.extents rows kinds)

  by_fields : source.mapping ≡ Aos Packed Row → target.mapping ≡ Soa Multi Row → new ≤ old + 2000
  by_fields from to =
      let leaf : length (leaves target.fields) ≡ 1 = sym (length-map (leaves target.fields) (λ leaf. leaf.kind)) ∙ ap (λ (ks : List LeafType). length ks) kinds in
      let is : IsStrategy source.mapping target.mapping way.Fields = rw (from, to) ((λ e. cc), (λ e. e)) in
      let sum = rw (rows, leaf) at (goes way.Fields is) in
      omega (arith, sum)

  pub by_way : (strategy : Strategy) → source.mapping ≡ from_of strategy → target.mapping ≡ to_of strategy → new ≤ old + most_steps strategy
  by_way way.Runs = by_runs
  by_way way.Blobs = by_blobs
  by_way way.Fields = by_fields

-- the types of a record with one leaf
one_kind : (kinds : List LeafType) (kind : LeafType) → length kinds ≡ 1 → slice_get kinds 0 ≡ Some kind → kinds ≡ kind ∷ []
one_kind [] kind one is = absurd (omega (arith, one))
one_kind (first ∷ []) kind one is = ap (λ (found : Option LeafType). unwrap_or found kind ∷ []) is
one_kind (first ∷ other ∷ kinds) kind one is = absurd (omega (arith, one))

pub one_leaf : (held : Fields) (kind : LeafType) → length (leaves held) ≡ 1 → slice_get (kinds_of held) 0 ≡ Some kind → kind ≡ U32 → kinds_of held ≡ U32 ∷ []
one_leaf held kind one first is =
    one_kind (kinds_of held) kind (length-map (leaves held) (λ leaf. leaf.kind) ∙ one) first ∙ ap (λ (k : LeafType). k ∷ []) is
