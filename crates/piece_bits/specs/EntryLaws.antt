-- Bits whose raw numbers are settled are the image of the table, and a store keeps them settled.
use Rattle.std.specs.Prelude.{◌≡◌, ℕ, ◌<◌, ◌≤◌, Bool, false, ℤ, List, length, map, refl}
use Rattle.piece_bits.specs.Imports.{sym, ap, ◌∙◌, subst, ⊎_elim, arith, length-map, cases_eq, cases_lt, LeafType, is_signed, IsIn, IsDeclared, Hold, Owner, Pad, Bit, owner_at, digit, entry, bit_held, IsImage, table_of, width_at, IsLaidOut, IsBitOf}
use Rattle.piece_bits.specs.Tables.{with_entry, HasShape, hold_at, signs_and_widths}
use Rattle.piece_bits.specs.TableLaws.{table_shape, with_entry_same, with_entry_other}
use Rattle.piece_bits.specs.EntriesLaws.{image_from_padding}
use Rattle.piece_bits.specs.LowBits.{value_bits, declared, held, kept}
use Rattle.piece_bits.specs.KeptLaws.{low_in, low_same, some_bits, wider_in, held_digit, kept_in, declared_same, fitting_kept}
use Rattle.piece_bits.specs.declared.mode.StoreMode.{StoreMode}
use Rattle.piece_bits.specs.declared.mode.StoreMode.TheVariants.{Strict, Wrap}
use Rattle.piece_bits.specs.Modes.{kind_at, declared_table, Fits, Stays, IsSettled, AllSettled}
use Rattle.piece_bits.specs.KeptTableLaws.{declared_entry}

-- what stays lies in the declared range, and is kept as it is
pub stays_declared : (mode : StoreMode) (kind : LeafType) (hold : Hold) (value : ℤ) → Stays mode kind hold value → IsDeclared kind value
stays_declared Strict kind hold value stays = stays.declared
stays_declared Wrap kind hold value stays = subst (IsDeclared kind) stays (kept_in kind hold value)

pub stays_kept : (mode : StoreMode) (kind : LeafType) (hold : Hold) (value : ℤ) → 1 ≤ hold.width → Stays mode kind hold value → kept kind hold value ≡ value
stays_kept mode kind hold value some stays = grind (arith, fitting_kept)

pub fitting_stays : (mode : StoreMode) (kind : LeafType) (hold : Hold) (value : ℤ) → 1 ≤ hold.width → Fits kind hold value → Stays mode kind hold value
fitting_stays mode kind hold value some fits = grind (arith, fitting_kept)

-- what the image of such a value says is settled, and stands for it
pub stays_settled : (mode : StoreMode) (kind : LeafType) (hold : Hold) (value : ℤ) → 1 ≤ hold.width → Stays mode kind hold value →
    (declared kind (held hold value) ≡ value) × IsSettled mode kind hold (held hold value)
stays_settled mode kind hold value some stays = grind (arith, stays_kept)

-- a settled number lies in the range of its hold
pub raw_held : (mode : StoreMode) (kind : LeafType) (hold : Hold) (raw : ℤ) → 1 ≤ hold.width → IsSettled mode kind hold raw → IsIn hold.signed hold.width raw
raw_held mode kind hold raw some settled = subst (IsIn hold.signed hold.width) (sym settled.image) (low_in hold.signed hold.width (declared kind raw) some)

-- a fitting value is its own raw number, in either mode
pub fitting_held : (hold : Hold) (value : ℤ) → 1 ≤ hold.width → IsIn hold.signed hold.width value → held hold value ≡ value
fitting_held hold value some inside = low_same hold.signed hold.width value some inside

-- where the hold has room for the entry, a settled raw number is its own entry
pub own_entry : (mode : StoreMode) (kind : LeafType) (hold : Hold) (raw : ℤ) → 1 ≤ hold.width → IsSettled mode kind hold raw → IsIn hold.signed hold.width (declared kind raw) → declared kind raw ≡ raw
own_entry mode kind hold raw some settled inside = sym (settled.image ∙ low_same hold.signed hold.width (declared kind raw) some inside)

-- a value that fits is settled as it is, in either mode
pub fitting_settled : (mode : StoreMode) (kind : LeafType) (hold : Hold) (value : ℤ) → 1 ≤ hold.width → Fits kind hold value → IsSettled mode kind hold value
fitting_settled mode kind hold value some fits = grind (arith, declared_same, fitting_stays, fitting_held)

-- where each entry fits, a raw number is its entry
pub strict_entry : (kind : LeafType) (hold : Hold) (raw : ℤ) → 1 ≤ hold.width → IsSettled Strict kind hold raw → declared kind raw ≡ raw
strict_entry kind hold raw some settled = own_entry Strict kind hold raw some settled settled.stays.held

-- so it is where the hold has the type's sign: no mode is looked at
pub same_sign : (mode : StoreMode) (kind : LeafType) (hold : Hold) (raw : ℤ) → 1 ≤ hold.width → hold.signed ≡ is_signed kind →
    IsSettled mode kind hold raw → declared kind raw ≡ raw
same_sign mode kind hold raw some same settled =
    let bits : ℕ = value_bits kind in
    let raw_in : IsIn hold.signed hold.width raw = raw_held mode kind hold raw some settled in
    ⊎_elim (λ (narrow : hold.width < bits).
    let here : IsIn (is_signed kind) bits raw =
    wider_in (is_signed kind) hold.width bits raw some (omega (arith, narrow)) (subst (λ (s : Bool). IsIn s hold.width raw) same raw_in) in
    low_same (is_signed kind) bits raw (some_bits kind) here)
    (λ (wide : bits ≤ hold.width).
    let own : IsIn hold.signed bits (declared kind raw) =
    subst (λ (s : Bool). IsIn s bits (declared kind raw)) (sym same) (low_in (is_signed kind) bits raw (some_bits kind)) in
    own_entry mode kind hold raw some settled (wider_in hold.signed bits hold.width (declared kind raw) (some_bits kind) wide own))
    (cases_lt hold.width bits)

module _ (mode : StoreMode) (layout : List (List Owner)) (slots : ℕ) (kinds : List LeafType) (holds : List Hold) (laid : IsLaidOut layout slots (map (λ (h : Hold). h.width) holds))
    (paired : length holds ≡ length kinds) where
  wide : (leaf : ℕ) → leaf < length kinds → 1 ≤ (hold_at holds leaf).width
  wide leaf l =
      let d : Hold = record { signed = false; width = 0 } in
      let in_holds : leaf < length holds = omega (arith, l, paired) in
      let inside : leaf < length (map (λ (h : Hold). h.width) holds) = omega (arith, in_holds, length-map holds (λ (h : Hold). h.width)) in
      omega (arith, laid.wide leaf 0 inside, width_at holds leaf d in_holds)

  module _ (bits : ℕ → ℕ → ℕ) (small : (b p : ℕ) → bits b p < 2) (padding : (b p : ℕ) → owner_at layout b p ≡ Pad → bits b p ≡ 0)
      (settled : AllSettled mode slots kinds holds (table_of layout slots (signs_and_widths holds) bits)) where
    raw : List (List ℤ)
    raw = table_of layout slots (signs_and_widths holds) bits

    raw_shape : HasShape slots (length kinds) raw
    unfolding raw
    raw_shape =
        let shape = table_shape layout slots holds bits in
        record { row_count = shape.row_count; leaf_count = λ row l. shape.leaf_count row l ∙ paired }

    held_by : (b p : ℕ) (owner : Owner) → owner_at layout b p ≡ owner → bit_held raw owner ≡ bit_held (declared_table kinds raw) owner
    unfolding raw
    held_by b p Pad e = refl
    held_by b p (Bit s c k) e =
        let d : Hold = record { signed = false; width = 0 } in
        let is : IsBitOf slots (map (λ (h : Hold). h.width) holds) s c k = laid.owned b p s c k e in
        let cell_in : c < length holds = omega (arith, is.cell_in, length-map holds (λ (h : Hold). h.width)) in
        let leaf_in : c < length kinds = omega (arith, cell_in, paired) in
        let inside : k < (hold_at holds c).width = subst (λ (w : ℕ). k < w) (width_at holds c d cell_in) is.bit_in in
        let here = settled s c is.slot_in leaf_in in
        ap (λ (w : ℤ). digit w k) here.image
        ∙ held_digit (hold_at holds c) (declared (kind_at kinds c) (entry raw s c)) k inside
        ∙ ap (λ (w : ℤ). digit w k) (sym (declared_entry slots kinds raw raw_shape s c is.slot_in leaf_in))

    -- the bits are the image of the table that callers see
    pub image_of_table : IsImage layout (declared_table kinds (table_of layout slots (signs_and_widths holds) bits)) bits
    unfolding raw
    image_of_table b p = image_from_padding layout slots holds laid bits small padding b p ∙ held_by b p (owner_at layout b p) refl

  -- a raw table in which one number is what the image of a kept value says
  pub settled_after : (old new : List (List ℤ)) → HasShape slots (length kinds) old → AllSettled mode slots kinds holds old → (row leaf : ℕ) (value : ℤ) → row < slots → leaf < length kinds →
      Stays mode (kind_at kinds leaf) (hold_at holds leaf) value → new ≡ with_entry old row leaf (held (hold_at holds leaf) value) → AllSettled mode slots kinds holds new
  settled_after old new shape settled row leaf value row_in leaf_in stays is r c l m =
      let n : ℕ = length kinds in
      let raw : ℤ = held (hold_at holds leaf) value in
      let here = stays_settled mode (kind_at kinds leaf) (hold_at holds leaf) value (wide leaf leaf_in) stays in
      subst (λ (t : List (List ℤ)). IsSettled mode (kind_at kinds c) (hold_at holds c) (entry t r c)) (sym is)
      (⊎_elim (λ (same_row : r ≡ row).
      ⊎_elim (λ (same_leaf : c ≡ leaf).
      let there : IsSettled mode (kind_at kinds leaf) (hold_at holds leaf) (entry (with_entry old row leaf raw) row leaf) =
      subst (λ (v : ℤ). IsSettled mode (kind_at kinds leaf) (hold_at holds leaf) v) (sym (with_entry_same slots n old shape row leaf raw row_in leaf_in)) here.1 in
      grind arith)
      (λ (apart : c ≡ leaf → ⊥).
      subst (λ (v : ℤ). IsSettled mode (kind_at kinds c) (hold_at holds c) v)
      (sym (with_entry_other slots n old shape row leaf raw row_in leaf_in r c (λ e. apart e.1))) (settled r c l m))
      (cases_eq c leaf))
      (λ (apart : r ≡ row → ⊥).
      subst (λ (v : ℤ). IsSettled mode (kind_at kinds c) (hold_at holds c) v)
      (sym (with_entry_other slots n old shape row leaf raw row_in leaf_in r c (λ e. apart e.0))) (settled r c l m))
      (cases_eq r row))
