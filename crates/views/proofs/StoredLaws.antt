-- The values of one leaf that are stored, a lane at a time.
use Rattle.views.proofs.Imports.{◌≡◌, ℕ, zero, suc, ◌+◌, ◌<◌, ◌≤◌, List, [], ◌∷◌, ◌++◌, length, take, drop, get_or, ℤ, pos, Some, None, Ok, Err, sym, ap, ◌∙◌, arith, drop-cons, FitsSigned, to_z, of_z, w64, w128, to_z-of_z, option_or, map-range_with_len_more, declared, with_entry, StoreAnswer, without_number, told_err, Table, leaf_type_of, after_raw, after_stores, Write, after_log-none, after_stores-append, column_writes, with_column, lane_fault, first_lane_fault, no_column, entry_more, StoreFault, LaneFault, length-take, take_all, Option, Result}

-- a lane whose value is taken
no_lane_fault : (lane : ℕ) (result : Result ℤ StoreFault) → lane_fault lane result ≡ None → without_number result ≡ Ok tt
no_lane_fault lane result none = grind arith

both_none : (one other : Option LaneFault) → option_or one other ≡ None → (one ≡ None) × (other ≡ None)
both_none one other none = grind arith

pub lane_taken : (answer : StoreAnswer) (leaf first lane : ℕ) (values : List ℤ) → first_lane_fault answer leaf first values ≡ None → lane < length values
    → without_number (answer leaf (get_or values lane (pos 0))) ≡ Ok tt
lane_taken answer leaf first lane [] none inside = absurd (omega arith)
lane_taken answer leaf first zero (value ∷ values) none inside = grind (arith, no_lane_fault, both_none)
lane_taken answer leaf first (suc lane) (value ∷ values) none inside =
    lane_taken answer leaf (first + 1) lane values (both_none (lane_fault first (answer leaf value)) (first_lane_fault answer leaf (first + 1) values) none).1 (omega arith)

-- the lanes from one on, where it is taken and where it is not
pub first_taken : (lane : ℕ) (result : Result ℤ StoreFault) (later : Option LaneFault) → without_number result ≡ Ok tt → option_or (lane_fault lane result) later ≡ later
first_taken lane result later taken = grind arith

pub fault_later : (answer : StoreAnswer) (leaf lane : ℕ) (values : List ℤ) → lane < length values → without_number (answer leaf (get_or values lane (pos 0))) ≡ Ok tt
    → first_lane_fault answer leaf lane (drop lane values) ≡ first_lane_fault answer leaf (lane + 1) (drop (lane + 1) values)
fault_later answer leaf lane values inside taken = grind (arith, drop-cons, first_taken)

pub fault_here : (answer : StoreAnswer) (leaf lane : ℕ) (values : List ℤ) (fault : StoreFault) → lane < length values → without_number (answer leaf (get_or values lane (pos 0))) ≡ Err fault
    → first_lane_fault answer leaf lane (drop lane values) ≡ Some (record { lane = lane; fault = fault })
fault_here answer leaf lane values fault inside refused = grind (arith, drop-cons, option_or, told_err)

-- the values of the first so many lanes are stored
pub record HasStored (leaf row lane : ℕ) (old table : Table) (values : List ℤ) : Type 0 where
  pub stored : table ≡ after_stores old (with_column leaf row (take lane values) old.rows) (column_writes leaf row lane)

pub nothing_stored : (leaf row : ℕ) (old : Table) (values : List ℤ) → HasStored leaf row 0 old old values
nothing_stored leaf row old values = record { stored = sym (ap (λ (rows : List (List ℤ)). after_stores old rows []) (no_column leaf row old.rows) ∙ after_log-none old) }

-- one value more
pub value_more : (leaf first lane at : ℕ) (old table new : Table) (values : List ℤ) (value : ℤ) → HasStored leaf first lane old table values → lane < length values → first + lane < length old.rows
    → at ≡ first + lane → value ≡ get_or values lane (pos 0) → new ≡ after_stores table (with_entry table.rows at leaf value) (Write at leaf ∷ [])
    → HasStored leaf first (lane + 1) old new values
value_more leaf first lane at old table new values value stored inside below place is wrote =
    let next : suc lane ≡ lane + 1 = omega arith in
    let so_far = with_column leaf first (take lane values) old.rows in
    record {
      stored = wrote
          ∙ ap (λ (t : Table). after_stores t (with_entry t.rows at leaf value) (Write at leaf ∷ [])) stored.stored
          ∙ after_stores-append old so_far (with_entry so_far at leaf value) (column_writes leaf first lane) (Write at leaf ∷ [])
          ∙ ap (λ (v : ℤ). after_stores old (with_entry so_far at leaf v) (column_writes leaf first lane ++ Write at leaf ∷ [])) is
          ∙ ap (λ (rows : List (List ℤ)). after_stores old rows (column_writes leaf first lane ++ Write at leaf ∷ [])) (entry_more leaf first lane at values old.rows inside place (omega arith))
          ∙ ap (λ (n : ℕ). after_stores old (with_column leaf first (take n values) old.rows) (column_writes leaf first lane ++ Write at leaf ∷ [])) next
          ∙ ap (after_stores old (with_column leaf first (take (lane + 1) values) old.rows)) (sym (map-range_with_len_more (λ at. Write at leaf) first lane at (sym place)));
    }

-- the same by the raw number that was written
pub stored_more : (leaf row lane at : ℕ) (old table new : Table) (values : List ℤ) (raw : ℤ) → HasStored leaf row lane old table values → lane < length values → row + lane < length old.rows
    → at ≡ row + lane → declared (leaf_type_of old leaf) raw ≡ get_or values lane (pos 0) → new ≡ after_raw table at leaf raw → HasStored leaf row (lane + 1) old new values
stored_more leaf row lane at old table new values raw stored inside below place is wrote =
    value_more leaf row lane at old table new values (declared (leaf_type_of table leaf) raw) stored inside below place (ap (λ (t : Table). declared (leaf_type_of t leaf) raw) stored.stored ∙ is) wrote

-- a number of 64 bits that is handed on with 128
pub passed : (value wide : ℤ) → FitsSigned w64 value → wide ≡ to_z w64 (of_z w64 value) → to_z w128 (of_z w128 wide) ≡ value
passed value wide fits is = grind (arith, to_z-of_z, to_z, of_z)

-- all are stored
pub all_stored : (leaf row lane count : ℕ) (old table : Table) (values : List ℤ) → HasStored leaf row lane old table values → lane ≡ count → length values ≡ count
    → table ≡ after_stores old (with_column leaf row values old.rows) (column_writes leaf row count)
all_stored leaf row lane count old table values stored end all = grind (arith, take_all)

-- the first lanes of an array are those of a block
pub first_lanes : (P : List ℤ → ℕ → Type 0) (numbers values : List ℤ) (lanes : ℕ) → numbers ≡ values → lanes ≤ length values → P (take lanes numbers) (length (take lanes numbers)) → P (take lanes values) lanes
first_lanes P numbers values lanes is few there = grind (arith, length-take)
