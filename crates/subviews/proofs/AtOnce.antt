-- Rows of a leaf that are read or stored at once.
use Rattle.subviews.proofs.Imports.{◌≡◌, ℕ, zero, suc, ◌+◌, ◌<◌, ◌≤◌, true, ℤ, pos, List, [], ◌∷◌, ◌++◌, length, map, take, get_or, Option, Result, Ok, Err, is_ok, refl, ap, sym, ◌∙◌, arith, option_or, length-map, length-take-le, length-drop, get_or-map, get_or-take, get_or-drop, map-range_with_len_more, low_64, entry, with_entry, column_writes, lane_fault, first_lane_fault, no_column, entry_more, run_of, told_lane, stored_count, StoreAnswer, Write, after_log-none, after_stores-append, Table, after_stores, LaneFault, StoreFault, with_column}

-- ---- values that are read

module _ (table : Table) (leaf first count : ℕ) (inside : first + count ≤ length table.rows) where
  pub run_count : length (run_of leaf first count table) ≡ count
  run_count = grind (arith, length-take-le, length-drop, length-map)

  pub run_value : (k : ℕ) → k < count → get_or (run_of leaf first count table) k (pos 0) ≡ entry table.rows (first + k) leaf
  run_value k low = grind (arith, get_or-take, get_or-drop, get_or-map)

  pub low_value : (k : ℕ) → k < count → get_or (map low_64 (run_of leaf first count table)) k (pos 0) ≡ low_64 (entry table.rows (first + k) leaf)
  low_value k low = get_or-map low_64 (run_of leaf first count table) k (pos 0) (pos 0) (omega (arith, low, run_count)) ∙ ap low_64 (run_value k low)

-- ---- values that are stored, one after another

abbrev pub stored_to : Table → ℕ → ℕ → List ℤ → ℕ → Table
stored_to table leaf first values n = after_stores table (with_column leaf first (take n values) table.rows) (column_writes leaf first n)

pub none_of_run : (table : Table) (leaf first : ℕ) (values : List ℤ) → stored_to table leaf first values 0 ≡ table
none_of_run table leaf first values = ap (λ (r : List (List ℤ)). after_stores table r []) (no_column leaf first table.rows) ∙ after_log-none table

pub one_of_run : (table : Table) (leaf first : ℕ) (values : List ℤ) (n : ℕ) → n < length values → first + n < length table.rows
    → after_stores (stored_to table leaf first values n) (with_entry (stored_to table leaf first values n).rows (first + n) leaf (get_or values n (pos 0))) (Write (first + n) leaf ∷ [])
    ≡ stored_to table leaf first values (suc n)
one_of_run table leaf first values n low inside =
    let at = first + n in
    let rows = with_column leaf first (take n values) table.rows in
    let next : n + 1 ≡ suc n = omega arith in
    after_stores-append table rows (with_entry rows at leaf (get_or values n (pos 0))) (column_writes leaf first n) (Write at leaf ∷ [])
    ∙ ap (λ (r : List (List ℤ)). after_stores table r (column_writes leaf first n ++ Write at leaf ∷ [])) (entry_more leaf first n at values table.rows low refl inside)
    ∙ ap (after_stores table (with_column leaf first (take (suc n) values) table.rows)) (sym (map-range_with_len_more (λ at. Write at leaf) first n at refl))
    ∙ ap (λ (m : ℕ). after_stores table (with_column leaf first (take (suc n) values) table.rows) (column_writes leaf first m)) next

-- ---- values up to the first that is not taken

pub record AreTaken (answer : StoreAnswer) (leaf lane : ℕ) (values : List ℤ) (end : ℕ) : Type 0 where
  pub from : lane ≤ end
  pub few : end ≤ lane + length values
  pub taken : (k : ℕ) → lane + k < end → is_ok (answer leaf (get_or values k (pos 0))) ≡ true

pub are_taken : (answer : StoreAnswer) (leaf lane : ℕ) (values : List ℤ) (all : ℕ) → lane + length values ≡ all → AreTaken answer leaf lane values (stored_count all (first_lane_fault answer leaf lane values))
are_taken answer leaf lane [] all is = record { from = omega (arith, is); few = omega (arith, is); taken = λ k low. absurd (omega (arith, is, low)) }
are_taken answer leaf lane (value ∷ values) all is = of (answer leaf value) refl (are_taken answer leaf (lane + 1) values all (omega (arith, is))) where
  of : (one : Result ℤ StoreFault) → answer leaf value ≡ one → AreTaken answer leaf (lane + 1) values (stored_count all (first_lane_fault answer leaf (lane + 1) values))
      → AreTaken answer leaf lane (value ∷ values) (stored_count all (option_or (lane_fault lane one) (first_lane_fault answer leaf (lane + 1) values)))
  of (Ok kept) is rest = record { from = omega (arith, rest.from); few = omega (arith, rest.few); taken = each } where
    each : (k : ℕ) → lane + k < stored_count all (first_lane_fault answer leaf (lane + 1) values) → is_ok (answer leaf (get_or (value ∷ values) k (pos 0))) ≡ true
    each zero low = ap (λ (r : Result ℤ StoreFault). is_ok r) is
    each (suc k) low = rest.taken k (omega (arith, low))
  of (Err fault) is rest = record { from = omega arith; few = omega arith; taken = λ k low. absurd (omega (arith, low)) }

-- how many they are, by what a store tells
pub count_told : (count : ℕ) (fault : Option LaneFault) → told_lane fault ≡ Ok tt → stored_count count fault ≡ count
count_told count fault told = grind arith

pub count_refused : (count : ℕ) (fault : Option LaneFault) (other : LaneFault) → told_lane fault ≡ Err other → stored_count count fault ≡ other.lane
count_refused count fault other told = grind arith
