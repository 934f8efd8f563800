-- Memory that holds the digits of entries, and what is read off it.
use Rattle.std.specs.Prelude.{◌≡◌, ℕ, ◌<◌, Bool, true, false, ℤ, pos, List, length, map, get_or, refl, ◌==◌, ◌&&◌, if◌then◌else◌}
use Rattle.actor_steps.specs.Imports.{sym, ap, ◌∙◌, subst, arith, and_parts, eqb-true, length-map, Owner, Pad, Bit, owner_at, digit, decoded, entry, bit_owned, IsBitOf, IsLaidOut, written_bit, width_at, number_same, owned_is, Hold, HasShape, hold_at, table_in, table_shape, entry_is, declared, held, kind_at, declared_shape, declared_entry, bit_in}
use Rattle.actor_steps.specs.Micro.{Job, row_in}

-- the digit that an owner holds of some entries
abbrev pub digit_held : (ℕ → ℕ → ℤ) → Owner → ℕ
digit_held entries Pad = 0
digit_held entries (Bit row leaf bit) = digit (entries row leaf) bit

-- each bit of memory is the digit that its owner holds
abbrev pub IsHeld : List (List Owner) → (ℕ → ℕ → ℤ) → List (List ℕ) → Type 0
IsHeld layout entries memory = (b p : ℕ) → bit_in memory b p ≡ digit_held entries (owner_at layout b p)

-- entries with another value of a leaf in a row
abbrev pub with_value : ℕ → ℕ → ℤ → (ℕ → ℕ → ℤ) → ℕ → ℕ → ℤ
with_value row leaf value entries r f = if r == row && f == leaf then value else entries r f

-- the widths of the leaves
abbrev pub widths_of : Job → List ℕ
widths_of job = map (λ hold. hold.width) job.holds

module _ (job : Job) (laid : IsLaidOut job.layout (length job.rows) (widths_of job)) (paired : length job.holds ≡ length job.kinds) where
  -- bits that have the digits of a value wherever the leaf has one are read as what the image of this value says
  pub reading-held : (bytes : List (List ℕ)) (row leaf : ℕ) (value : ℤ) → row < length job.rows → leaf < length job.holds
      → ((b p k : ℕ) → owner_at job.layout b p ≡ Bit row leaf k → bit_in bytes b p ≡ digit value k)
      → entry (table_in job.layout (length job.rows) job.holds bytes) row leaf ≡ held (hold_at job.holds leaf) value
  reading-held bytes row leaf value row_in leaf_in has =
      let none : Hold = record { signed = false; width = 0 } in
      let hold = hold_at job.holds leaf in
      let bits = bit_in bytes in
      let bit : (k : ℕ) → k < hold.width → bit_owned (Bit row leaf k) job.layout bits ≡ digit value k =
      λ k l.
      (let here : IsBitOf (length job.rows) (widths_of job) row leaf k = record {
        slot_in = row_in;
        cell_in = omega (arith, leaf_in, length-map job.holds (λ (h : Hold). h.width));
        bit_in = subst (λ (w : ℕ). k < w) (sym (width_at job.holds leaf none leaf_in)) l;
      } in
      let at = laid.there row leaf k here in
      owned_is job.layout (length job.rows) (widths_of job) bits at.0 at.1 row leaf k laid at.2 ∙ has at.0 at.1 k at.2) in
      entry_is job.layout (length job.rows) job.holds bits row leaf none row_in leaf_in
      ∙ ap (decoded hold.signed hold.width) (number_same (λ k. bit_owned (Bit row leaf k) job.layout bits) (digit value) hold.width bit)

  raw : List (List ℕ) → List (List ℤ)
  raw bytes = table_in job.layout (length job.rows) job.holds bytes

  raw_shape : (bytes : List (List ℕ)) → HasShape (length job.rows) (length job.kinds) (raw bytes)
  unfolding raw
  raw_shape bytes =
      let shape = table_shape job.layout (length job.rows) job.holds (bit_in bytes) in
      record { row_count = shape.row_count; leaf_count = λ row l. shape.leaf_count row l ∙ paired }

  -- an entry of a row that is read off bytes
  pub row_in-at : (bytes : List (List ℕ)) (row leaf : ℕ) → row < length job.rows → leaf < length job.kinds
      → get_or (row_in job bytes row) leaf (pos 0) ≡ declared (kind_at job.kinds leaf) (entry (table_in job.layout (length job.rows) job.holds bytes) row leaf)
  unfolding raw
  row_in-at bytes row leaf row_in leaf_in = declared_entry (length job.rows) job.kinds (raw bytes) (raw_shape bytes) row leaf row_in leaf_in

  pub length-row_in : (bytes : List (List ℕ)) (row : ℕ) → row < length job.rows → length (row_in job bytes row) ≡ length job.kinds
  unfolding raw
  length-row_in bytes row row_in = (declared_shape (length job.rows) job.kinds (raw bytes) (raw_shape bytes)).leaf_count row row_in

-- what all bytes of a leaf in a row hold after it is stored
pub held-written : (layout : List (List Owner)) (row leaf : ℕ) (value : ℤ) (entries : ℕ → ℕ → ℤ) (b p old : ℕ) (owner : Owner) (among : Bool)
    → old ≡ digit_held entries owner → ((k : ℕ) → owner ≡ Bit row leaf k → among ≡ true)
    → (if among then written_bit owner row leaf value old else old) ≡ digit_held (with_value row leaf value entries) owner
held-written layout row leaf value entries b p old Pad true is there = is
held-written layout row leaf value entries b p old Pad false is there = is
held-written layout row leaf value entries b p old (Bit r f k) among is there = by_test (r == row && f == leaf) refl among refl where
  by_test : (test : Bool) → (r == row && f == leaf) ≡ test → (a : Bool) → among ≡ a
      → (if a then (if test then digit value k else old) else old) ≡ digit (if test then value else entries r f) k
  by_test true e true a = refl
  by_test true e false a =
      (let both = and_parts (r == row) (f == leaf) e in
      let here : Bit r f k ≡ Bit row leaf k = ap (λ (w : ℕ). Bit w f k) (eqb-true r row both.0) ∙ ap (λ (w : ℕ). Bit row w k) (eqb-true f leaf both.1) in
      let bad : true ≡ false = sym (there k here) ∙ a in
      let none : ⊥ = cc in absurd none)
  by_test false e true a = is
  by_test false e false a = is
