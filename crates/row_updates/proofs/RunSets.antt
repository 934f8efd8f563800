-- Right sides whose values are stored in the rows of a run.
use Rattle.row_updates.proofs.Imports.{◌≡◌, ◌∙◌, ℕ, ◌+◌, ◌<◌, ◌≤◌, List, [], ◌∷◌, ◌++◌, length, map, take, get_or, ℤ, pos, Bool, Option, Result, Ok, is_ok, refl, sym, ap, arith, take_all, take-map, length-map, map_same, Term, IsSafe, column_writes, with_column, first_lane_fault, stored_count, raised, kept_or, Table, IsTable, leaf_count_of, leaf_type_of, answer_of, kept_of, after_stores, StoreFault, Run, Assign, Setting, setting_of, IsIdle, AreGiven, IsRunUpdated, AreTested}
use Rattle.row_updates.proofs.Rows.{settings_more}
use Rattle.row_updates.proofs.RunRows.{run_stored, no_sides}
use Rattle.row_updates.proofs.Taken.{stored_front}

-- as many of the values as are stored
abbrev pub stored_of : Table → ℕ → List ℤ → ℕ
stored_of table leaf values = stored_count (length values) (first_lane_fault (answer_of table) leaf 0 values)

module _ (table : Table) (run : Run) (filter : Option (Term ℕ)) (count : ℕ) (test : ℕ → Bool) (values : List ℤ) (last : Setting) (is : IsTable table) (idle : IsIdle table)
    (safe : IsSafe run.leaves.now run.places.now last.value) (inside : last.leaf < leaf_count_of table) (rows_in : run.first + count ≤ length table.rows) (long : length values ≡ count)
    (tested : AreTested table filter run.first count test) (given : AreGiven table run last test values) where
  -- one right side, up to the first value that is not taken
  pub lone_stored : (after : Table)
      → after ≡ after_stores table (with_column last.leaf run.first (map (kept_of table last.leaf) (take (stored_of table last.leaf values) values)) table.rows)
      (column_writes last.leaf run.first (stored_of table last.leaf values))
      → IsRunUpdated table filter (last ∷ []) run.first (stored_of table last.leaf values) after
  lone_stored after stored =
      let many = stored_of table last.leaf values in
      let front = stored_front (answer_of table) last.leaf values (first_lane_fault (answer_of table) last.leaf 0 values) refl in
      let few : AreTested table filter run.first many test = λ k small. tested k (omega (arith, small, front.few, long)) in
      run_stored table run filter [] last many test values table after (column_writes last.leaf run.first many) is idle safe inside (omega (arith, rows_in, front.few, long)) front.few few
      (no_sides table filter run.first many test few) (λ k small. given k (omega (arith, small, front.few))) front.taken stored

  -- one more, whose values are all taken as they are
  pub last_stored : (sets : List Setting) (mid after : Table) → IsRunUpdated table filter sets run.first count mid
      → ((k : ℕ) → k < length values → answer_of table last.leaf (get_or values k (pos 0)) ≡ Ok (get_or values k (pos 0)))
      → ((k : ℕ) → k < length values → raised (leaf_type_of table last.leaf) (get_or values k (pos 0)) ≡ get_or values k (pos 0))
      → after ≡ after_stores mid (with_column last.leaf run.first (map (raised (leaf_type_of mid last.leaf)) values) mid.rows) (column_writes last.leaf run.first (length values))
      → IsRunUpdated table filter (sets ++ last ∷ []) run.first count after
  last_stored sets mid after before taken same stored =
      let leaf = last.leaf in
      let log = column_writes leaf run.first (length values) in
      let raised_are : map (raised (leaf_type_of mid leaf)) values ≡ values =
      map_same (raised (leaf_type_of mid leaf)) values (λ k small. ap (λ (t : Table). raised (leaf_type_of t leaf) (get_or values k (pos 0))) before.still.same ∙ same k small) in
      let kept_are : map (kept_of mid leaf) (take count values) ≡ values =
      ap (map (kept_of mid leaf)) (take_all count values (omega (arith, long)))
      ∙ map_same (kept_of mid leaf) values (λ k small. ap (λ (t : Table). kept_of t leaf (get_or values k (pos 0))) before.still.same ∙ ap (kept_or (get_or values k (pos 0))) (taken k small)) in
      run_stored table run filter sets last count test values mid after log is idle safe inside rows_in (omega (arith, long)) tested before
      (λ k small. given k (omega (arith, small, long))) (λ k small. ap (λ (r : Result ℤ StoreFault). is_ok r) (taken k (omega (arith, small, long))))
      (stored ∙ ap (λ (vs : List ℤ). after_stores mid (with_column leaf run.first vs mid.rows) log) (raised_are ∙ sym kept_are))

-- the settings before the last, and the last
pub all_settings : (sets : List Assign) (before : ℕ) (last : Assign) → before + 1 ≡ length sets → last ≡ get_or sets before last
    → map setting_of (take before sets) ++ setting_of last ∷ [] ≡ map setting_of sets
all_settings sets before last all is =
    ap (λ (front : List Setting). front ++ setting_of last ∷ []) (sym (take-map setting_of before sets))
    ∙ sym (settings_more sets before last (omega (arith, all)) is)
    ∙ take_all (before + 1) (map setting_of sets) (omega (arith, all, length-map sets setting_of))
