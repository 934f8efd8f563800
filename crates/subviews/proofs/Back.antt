-- Values of a buffer that are stored in its view.
use Rattle.subviews.proofs.Imports.{◌≡◌, ℕ, suc, ◌+◌, ◌%◌, ◌^◌, ◌<◌, ◌≤◌, ℤ, pos, negsuc, List, [], ◌∷◌, length, map, take, get_or, None, FitsSigned, to_z, w64, refl, ap, sym, subst, ◌∙◌, arith, ints, of_z-to_z, mod-eq_of_lt, read_sfits, length-map, take_all, indices, low_64, IsWithin64, code_low, declared, kept, declared_same, kept_declared, StoreMode, Strict, Wrap, stays_declared, hold_at, entry, Hold, LeafType, leaves, IsDeclared, column_writes, first_lane_fault, with_values, raised, run_of, run_fault, stored_count, with_run, low_declared, raised_low, raised_all, Fits, Stays, store_answer, kept_or, Table, IsTable, leaf_count_of, leaf_type_of, table_holds, answer_of, kept_of, after_stores, IsBufferOf}
use Rattle.record_dim.specs.declared.leaf_type.LeafType.TheVariants as kinds
use Rattle.subviews.proofs.Passes.{same_stays}
use Rattle.subviews.proofs.AtOnce.{run_count, run_value, low_value}

-- ---- a value by its low 64 bits

within : (z : ℤ) → FitsSigned w64 z → IsWithin64 z
within z fits = grind arith

whole_declared : (value : ℤ) → IsDeclared kinds.U64 value → declared kinds.U64 (low_64 value) ≡ value
whole_declared (pos n) h =
    let small : n < 2 ^ 64 = omega (arith, ints, h.1) in
    ap pos (code_low (to_z w64 n) 64 (omega arith) (within (to_z w64 n) (read_sfits w64 n)) ∙ ap (λ (m : ℕ). m % 2 ^ 64) (of_z-to_z w64 n small) ∙ mod-eq_of_lt small)
whole_declared (negsuc n) h = absurd (omega (arith, ints, h.0))

low_back : (kind : LeafType) (value : ℤ) → IsDeclared kind value → declared kind (low_64 value) ≡ value
low_back kind value h = grind (arith, whole_declared, low_declared, declared_same)

-- what is kept of them is the value, where it is kept as it is
low_kept : (kind : LeafType) (hold : Hold) (value : ℤ) → IsDeclared kind value → kept kind hold value ≡ value → kept kind hold (low_64 value) ≡ value
low_kept kind hold value h same = sym (kept_declared kind hold (low_64 value)) ∙ ap (kept kind hold) (low_back kind value h) ∙ same

-- ---- values of the buffer

-- a view that wraps takes each
none_refused : (table : Table) (leaf lane : ℕ) (values : List ℤ) → table.mode ≡ Wrap → first_lane_fault (answer_of table) leaf lane values ≡ None
none_refused table leaf lane [] wraps = refl
none_refused table leaf lane (value ∷ values) wraps = grind (arith, (none_refused table leaf (lane + 1) values wraps))

module _ (view buffer : Table) (leaf first count : ℕ) (lows : List ℤ) (is : IsBufferOf view buffer) (own : IsTable view) (table : IsTable buffer) (leaf_in : leaf < leaf_count_of view)
    (rows_in : first + count ≤ length view.rows) (lows_are : lows ≡ map low_64 (run_of leaf first count buffer)) where
  abbrev values : List ℤ
  values = run_of leaf first count buffer

  abbrev kind : LeafType
  kind = leaf_type_of view leaf

  abbrev hold : Hold
  hold = hold_at (table_holds view) leaf

  abbrev value : ℕ → ℤ
  value k = entry buffer.rows (first + k) leaf

  inside : first + count ≤ length buffer.rows
  inside = omega (arith, rows_in, own.rows, table.rows, ap (λ (e : List ℕ). length (indices e)) is.extents)

  long : length lows ≡ count
  long = ap (λ (l : List ℤ). length l) lows_are ∙ length-map values low_64 ∙ run_count buffer leaf first count inside

  stays : (k : ℕ) → k < count → Stays view.mode kind hold (value k)
  stays k low = grind (arith, same_stays, length-map, leaves)

  in_kind : (k : ℕ) → k < count → IsDeclared kind (value k)
  in_kind k low = stays_declared view.mode kind hold (value k) (stays k low)

  -- a strict view has room for them
  pub all_fit : view.mode ≡ Strict → (k : ℕ) → k < length lows → Fits kind hold (raised kind (get_or lows k (pos 0)))
  all_fit strict k below =
      let low : k < count = omega (arith, below, long) in
      subst (Fits kind hold)
      (sym (ap (λ (l : List ℤ). raised kind (get_or l k (pos 0))) lows_are ∙ ap (raised kind) (low_value buffer leaf first count inside k low) ∙ raised_low kind (value k) (in_kind k low)))
      (subst (λ (mode : StoreMode). Stays mode kind hold (value k)) strict (stays k low))

  pub all_raised : (after : Table) → after ≡ after_stores view (with_values leaf first (map (raised kind) lows) view.rows) (column_writes leaf first (length lows))
      → after ≡ after_stores view (with_values leaf first values view.rows) (column_writes leaf first count)
  all_raised after stored = grind (arith, raised_all, run_count, run_value, in_kind, long)

  -- one that wraps keeps them
  kept_back : view.mode ≡ Wrap → (rest : List ℤ) (k : ℕ) → k + length rest ≡ count → ((j : ℕ) → j < length rest → get_or rest j (pos 0) ≡ value (k + j)) → map (kept_of view leaf) (map low_64 rest) ≡ rest
  kept_back wraps [] k all same = refl
  kept_back wraps (one ∷ rest) k all same =
      let low : k < count = omega (arith, all) in
      let none : k + 0 ≡ k = omega arith in
      let one_is : one ≡ value k = same 0 (omega arith) ∙ ap value none in
      let wrapped : kept kind hold one ≡ one = subst (λ (v : ℤ). kept kind hold v ≡ v) (sym one_is) (subst (λ (mode : StoreMode). Stays mode kind hold (value k)) wraps (stays k low)) in
      let back : kept_of view leaf (low_64 one) ≡ one =
      ap (λ (mode : StoreMode). kept_or (low_64 one) (store_answer mode kind hold (low_64 one))) wraps ∙ low_kept kind hold one (subst (IsDeclared kind) (sym one_is) (in_kind k low)) wrapped in
      ap (λ (v : ℤ). v ∷ map (kept_of view leaf) (map low_64 rest)) back
      ∙ ap (λ (more : List ℤ). one ∷ more) (kept_back wraps rest (k + 1) (omega (arith, all)) (λ j less.
      (let next : k + suc j ≡ k + 1 + j = omega arith in same (suc j) (omega (arith, less)) ∙ ap value next)))

  pub all_kept : view.mode ≡ Wrap → (after : Table) → after ≡ with_run leaf first lows (stored_count (length lows) (run_fault leaf lows view)) view
      → after ≡ after_stores view (with_values leaf first values view.rows) (column_writes leaf first count)
  all_kept wraps after stored =
      let back = kept_back wraps values 0 (omega (arith, run_count buffer leaf first count inside)) (λ j less.
      (let start : j ≡ 0 + j = omega arith in run_value buffer leaf first count inside j (omega (arith, less, run_count buffer leaf first count inside)) ∙ ap value start)) in
      let all : take count lows ≡ lows = take_all count lows (omega (arith, long)) in grind (arith, none_refused, long)
