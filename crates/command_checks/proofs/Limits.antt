-- New tables and their limits.
use Rattle.command_checks.proofs.Imports.{◌≡◌, ℕ, ◌+◌, ◌-◌, ◌*◌, ◌<◌, ◌≤◌, ◌^◌, Bool, true, false, List, length, take, map, get_or, Ok, refl, sym, ap, ◌∙◌, arith, ◌||◌, lt-ltb, or_right, nat_tests, get_or-map, length-map, sum_by_more, Fields, kinds_of, MapTerm, leaf_cells, layout_by, accepted, most_slots, StoreMode, Table, granules_for, IsOverLimits, Entry, ◌>>=◌, refused_if, made, zeros_of, blob_bits, live_bits, view_of, ViewEntry, Err, Tested, nat_lt}
use Rattle.worlds.specs.declared.fault.CommandFault.TheVariants as fault

slots_within : (a b : ℕ) → (a < b → ⊥) → nat_lt a b ≡ false
slots_within a b within = grind (arith, nat_tests)

-- a table behind four limits, each passed or not
abbrev limited : Bool → Bool → Bool → Bool → Table → Tested Table
limited slots bits granules all table = do
  fit ← refused_if slots fault.TooBig
  small ← refused_if bits fault.TooBig
  few ← refused_if granules fault.TooBig
  room ← refused_if all fault.TooBig
  Ok table

limited_goes : (a b c d : Bool) (table : Table) → a ≡ false → b ≡ false → c ≡ false → d ≡ false → limited a b c d table ≡ Ok table
limited_goes a b c d table p q r s = rw (p, q, r, s) refl

limited_over : (a b c d : Bool) (table : Table) → (a || (b || (c || d))) ≡ true → limited a b c d table ≡ Err fault.TooBig
limited_over a b c d table over = grind arith

module _ (views : List (Entry Table)) (mode : StoreMode) (fields : Fields) (extents : List ℕ) (term : MapTerm) (good : accepted term fields (leaf_cells (kinds_of fields)) ≡ Ok tt) where
  abbrev slots : Bool
  slots = nat_lt (2 ^ 24) (most_slots term extents)

  abbrev bits : Bool
  bits = nat_lt (8 * 2 ^ 28) (blob_bits (zeros_of mode fields extents term))

  abbrev granules : Bool
  granules = nat_lt (2 ^ 24) (granules_for term (layout_by term extents fields))

  abbrev all : Bool
  all = nat_lt (8 * 2 ^ 30) (live_bits views + blob_bits (zeros_of mode fields extents term))

  made_is : made views mode fields extents term ≡ limited slots bits granules all (zeros_of mode fields extents term)
  made_is = rw good refl

  over_is : (slots || (bits || (granules || all))) ≡ true → made views mode fields extents term ≡ Err fault.TooBig
  over_is over = made_is ∙ limited_over slots bits granules all (zeros_of mode fields extents term) over

  pub made_goes : (IsOverLimits term extents fields → ⊥) → (8 * 2 ^ 30 < live_bits views + blob_bits (zeros_of mode fields extents term) → ⊥) → made views mode fields extents term ≡ Ok (zeros_of mode fields extents term)
  made_goes small room = grind (arith, made_is, limited_goes, slots_within)

  pub made_full : 8 * 2 ^ 30 < live_bits views + blob_bits (zeros_of mode fields extents term) → made views mode fields extents term ≡ Err fault.TooBig
  made_full full = grind (arith, over_is, or_right, lt-ltb)

-- bytes against bits: too many live, and a view that fits beside those that live
pub bits_over : (live bits more : ℕ) → 8 * live ≡ bits → 2 ^ 30 < live → 8 * 2 ^ 30 < bits + more
bits_over live bits more a over = omega arith

pub bits_within : (live left bits more : ℕ) → 8 * live ≡ bits → left ≡ 2 ^ 30 - live → live ≤ 2 ^ 30 → more ≤ 8 * left → 8 * 2 ^ 30 < bits + more → ⊥
bits_within live left bits more a rest some within over = omega arith

sums : (bytes own bits more : ℕ) → 8 * bytes ≡ bits → 8 * own ≡ more → 8 * (bytes + own) ≡ bits + more
sums bytes own bits more a b = omega arith

-- the blobs of one view more
pub live_more : (views : List ViewEntry) (i : ℕ) (entry : ViewEntry) (bytes own : ℕ) → i < length views → entry ≡ get_or views i entry → 8 * bytes ≡ live_bits (take i (map view_of views)) → 8 * own ≡ blob_bits (view_of entry).held → 8 * (bytes + own) ≡ live_bits (take (i + 1) (map view_of views))
live_more views i entry bytes own small is so_far more =
    let inside : i < length (map view_of views) = rw length-map small in
    let at : get_or (map view_of views) i (view_of entry) ≡ view_of entry = get_or-map view_of views i entry (view_of entry) small ∙ ap view_of (sym is) in
    let sum = sum_by_more (λ (e : Entry Table). blob_bits e.held) (map view_of views) i (view_of entry) inside in
    let one : blob_bits (get_or (map view_of views) i (view_of entry)).held ≡ blob_bits (view_of entry).held = ap (λ (e : Entry Table). blob_bits e.held) at in
    sums bytes own (live_bits (take i (map view_of views))) (blob_bits (view_of entry).held) so_far more ∙ sym (sum ∙ ap (λ (n : ℕ). live_bits (take i (map view_of views)) + n) one)
