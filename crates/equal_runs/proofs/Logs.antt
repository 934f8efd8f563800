-- What is counted of a view are the accesses to it, line after line.
use Rattle.equal_runs.proofs.Imports.{◌≡◌, ℕ, Bool, false, List, [], ◌++◌, length, Option, Some, None, refl, sym, ap, subst, ◌∙◌, ◌^◌, nat_lt, not, length-map, File, indices, leaves, Tree, Fields, MapTerm, zeros, zeros_shape, StoreMode, Sentence, New, Access, tallied, no_tally, all_accesses, Read, Write, tallied-none, tallied-append, kept_row, kept_rows, Table, owners_of, leaf_count_of, kept_of, after_stores, World, Entry, found, added, replaced, removed, Saved, rows_in, table_of_saved, csv_records, records_behind, dataset_of, copy, copied, relayout, all_read, laid_anew, are_alike, define, fit, open_view, opened_beside, opened_table, load, loaded_table, loaded, filled, read, row_fault, mapping, Done, done_to, on_view, worked, Outcome, ◌>>=◌, LeftOf, Left, quiet, known, free, refused_if, ok_or, drop_view, step, work_of, made, resolved, zeros_of, nameless, view, new_table, with_view, named, Named, TooBig, Mismatch, found_added, found_replaced, IfGoes, to, refused, bind, behind, known_found, free_found, log_in, logged, reads_of, writes_of, fills_of, work_logs, logs_after, Ok, OnView, Tested, sure, goes_each, surely, ℤ, arith}
use Rattle.line_grammar.specs.Sentences as line
use Rattle.equal_runs.proofs.Agreeing.{Told, goes, told}
use Rattle.equal_runs.proofs.Entries.{Entries, Finds, finds, entries_added, entries_replaced, entries_removed}
use Rattle.equal_runs.proofs.Tables.{with_written, anew_of, made_told, rows_told, anew_told}

-- what is told goes there
of_told : {A : Type 0} (P : A → Type 0) (x : Tested A) → Told false P x → IfGoes P x
of_told P x h = grind (arith, to, refused)

-- the tally of a table is that of a list of accesses
abbrev pub IsCounted : Table → List Access → Type 0
IsCounted table log = table.tally ≡ tallied (owners_of table) (no_tally table.mapping (owners_of table) (leaf_count_of table)) log

abbrev pub AreCounted : List (Entry Table) → List (Entry (List Access)) → Type 0
AreCounted views logs = Entries IsCounted views logs

of_found : (x : Option Table) (y : Option (List Access)) (table : Table) → Finds IsCounted x y → x ≡ Some table → IsCounted table (log_in y)
of_found x y table h is = grind arith

pub counted_at : (name : List ℕ) (views : List (Entry Table)) (logs : List (Entry (List Access))) (table : Table) → AreCounted views logs → found name views ≡ Some table → IsCounted table (log_in (found name logs))
counted_at name views logs table all is = of_found (found name views) (found name logs) table (finds IsCounted name views logs all) is

-- more accesses
counted_more : (table : Table) (log : List Access) (rows : List (List ℤ)) (more : List Access) → IsCounted table log → IsCounted (after_stores table rows more) (log ++ more)
counted_more table log rows more is = grind (arith, tallied-append)

logged_more : (name : List ℕ) (views : List (Entry Table)) (logs : List (Entry (List Access))) (table : Table) (rows : List (List ℤ)) (more : List Access) → AreCounted views logs → found name views ≡ Some table
    → AreCounted (replaced name (after_stores table rows more) views) (logged name more logs)
logged_more name views logs table rows more all is =
    entries_replaced IsCounted name (after_stores table rows more) (log_in (found name logs) ++ more) views logs (counted_more table (log_in (found name logs)) rows more (counted_at name views logs table all is)) all

-- zeros that are written to
counted_zeros : (mode : StoreMode) (fields : Fields) (extents : List ℕ) (term : MapTerm) (rows : List (List ℤ)) (log : List Access)
    → IsCounted (after_stores (zeros_of mode fields extents term) rows log) log
counted_zeros mode fields extents term rows log = refl

length-zeros : (mode : StoreMode) (fields : Fields) (extents : List ℕ) (term : MapTerm) → length (zeros_of mode fields extents term).rows ≡ length (indices extents)
length-zeros mode fields extents term = (zeros_shape (length (indices extents)) (length (leaves fields))).row_count

-- one write of each value that a table keeps of rows
writes_written : (table : Table) (rows : List (List ℤ)) → writes_of (Some (with_written table rows)) ≡ all_accesses Write (leaf_count_of table) (length rows)
writes_written table rows = ap (all_accesses Write (leaf_count_of table)) (length-map rows (kept_row (kept_of table)))

-- a table of zeros, and one with other rows, each value written once
record IsZeros (table : Table) : Type 0 where
  mode : StoreMode
  fields : Fields
  extents : List ℕ
  term : MapTerm
  is : table ≡ zeros_of mode fields extents term

record IsFilled (table : Table) : Type 0 where
  mode : StoreMode
  fields : Fields
  extents : List ℕ
  term : MapTerm
  rows : List (List ℤ)
  is : table ≡ after_stores (zeros_of mode fields extents term) rows (all_accesses Write (length (leaves fields)) (length (indices extents)))

made_zeros : (views : List (Entry Table)) (mode : StoreMode) (fields : Fields) (extents : List ℕ) (term : MapTerm) → IfGoes IsZeros (made views mode fields extents term)
made_zeros views mode fields extents term = of_made (made views mode fields extents term) (made_told false views mode fields extents term) where
  of_made : (x : Tested Table) → Told false (λ (t : Table). t ≡ zeros_of mode fields extents term) x → IfGoes IsZeros x
  of_made x (goes t is) = to t (record { mode = mode; fields = fields; extents = extents; term = term; is = is })
  of_made x (told fault of) = refused fault

zeros_filled : (zeros : Table) (records : List (List (List ℕ))) → IsZeros zeros → IfGoes IsFilled (filled zeros records)
zeros_filled zeros records is =
    bind IsFilled (ok_or (row_fault zeros.fields) (dataset_of zeros records)) _ (λ rows r. to _ (record {
      mode = is.mode;
      fields = is.fields;
      extents = is.extents;
      term = is.term;
      rows = rows;
      is = ap (λ (t : Table). after_stores t rows (all_accesses Write (leaf_count_of t) (length t.rows))) is.is
          ∙ ap (λ (n : ℕ). after_stores (zeros_of is.mode is.fields is.extents is.term) rows (all_accesses Write (length (leaves is.fields)) n)) (length-zeros is.mode is.fields is.extents is.term);
    }))

-- the table of a file is filled with its rows
saved_filled : (saved : Saved) → IsFilled (table_of_saved saved)
saved_filled saved = record {
  mode = saved.header.mode;
  fields = saved.header.fields;
  extents = saved.header.extents;
  term = saved.header.mapping;
  rows = rows_in saved.header saved.blobs;
  is = refl;
}

counted_filled : (table : Table) → IsFilled table → IsCounted table (fills_of (Some table))
counted_filled table is = grind (arith, counted_zeros, leaves)

counted_none : (table : Table) → IsZeros table → IsCounted table []
counted_none table is = subst (λ (t : Table). IsCounted t []) (sym is.is) (sym (tallied-none _ _))

module _ (world : World) (logs : List (Entry (List Access))) (all : AreCounted world.views logs) where
  -- where a line goes, the accesses to each view are those that its table has counted
  abbrev Keeps : (World → List (Entry (List Access))) → Left → Type 0
  Keeps after left = AreCounted left.held.views (after left.held)

  define_keeps : (name : List ℕ) (tree : Tree) → IfGoes (Keeps (λ w. logs)) (define world name tree)
  unfolding define
  define_keeps name tree = bind (Keeps (λ w. logs)) (free name world.records) _ (λ unused a. bind (Keeps (λ w. logs)) (fit tree) _ (λ fields b. to _ all))

  mapping_keeps : (name : List ℕ) (term : MapTerm) → IfGoes (Keeps (λ w. logs)) (mapping world name term)
  unfolding mapping
  mapping_keeps name term = grind (arith, bind, to)

  new_zeros : (new : New) → IfGoes IsZeros (new_table world new)
  unfolding new_table
  new_zeros new =
      bind IsZeros (named world new) _ (λ whole a.
      bind IsZeros (resolved new.words None) _ (λ extents b. made_zeros world.views whole.mode whole.fields extents whole.mapping))

  view_keeps : (new : New) → IfGoes (Keeps (λ w. added new.name [] logs)) (view world new)
  unfolding view
  view_keeps new =
      behind (Keeps (λ w. added new.name [] logs)) IsZeros (new_table world new) _ (new_zeros new)
      (λ table is. to _ (entries_added IsCounted new.name table [] world.views logs (counted_none table is) all))

  -- the name of a view that goes is that of no view
  named_free : (new : New) → IfGoes (λ (whole : Named). found new.name world.views ≡ None) (named world new)
  named_free new = grind (arith, bind, to, free_found)

  -- a table that was filled, of a name that is that of no view
  abbrev IsLoaded : List ℕ → Table → Type 0
  IsLoaded name table = IsFilled table × (found name world.views ≡ None)

  -- such a table is added
  loaded_keeps : (name : List ℕ) (x : Outcome Table) → IfGoes (IsLoaded name) x
      → IfGoes (Keeps (λ w. added name (fills_of (found name w.views)) logs)) (x >>= (λ table. sure (quiet (with_view world name table))))
  loaded_keeps name x is_loaded =
      behind (Keeps (λ w. added name (fills_of (found name w.views)) logs)) (IsLoaded name) x _ is_loaded
      (λ table is. grind (arith, to, found_added, entries_added, counted_filled))

  loaded_filled : (new : New) (file : List ℕ) (files : List File) (fails : Bool) → IfGoes (IsLoaded new.name) (loaded_table world new file files fails)
  unfolding loaded_table loaded
  loaded_filled new file files fails =
      let P : Table → Type 0 = IsLoaded new.name in
      behind P (λ (whole : Named). found new.name world.views ≡ None) (sure (named world new)) _ (surely _ _ (named_free new)) (λ whole none.
      bind P (read files fails file) _ (λ bytes b. surely P _ (
      bind P (refused_if (nat_lt (2 ^ 28) (length bytes)) TooBig) _ (λ short c.
      bind P (resolved new.words (Some (length (records_behind (csv_records bytes))))) _ (λ extents d.
      behind P IsZeros (made world.views whole.mode whole.fields extents whole.mapping) _ (made_zeros world.views whole.mode whole.fields extents whole.mapping) (λ zeros is.
      with_free new none (filled zeros (csv_records bytes)) (zeros_filled zeros (csv_records bytes) is)))))))
    where
      with_free : (new : New) → found new.name world.views ≡ None → (x : Tested Table) → IfGoes IsFilled x → IfGoes (IsLoaded new.name) x
      with_free new none x (to t is) = to t (is, none)
      with_free new none x (refused fault) = refused fault

  load_keeps : (new : New) (file : List ℕ) (files : List File) (fails : Bool)
      → IfGoes (Keeps (λ w. added new.name (fills_of (found new.name w.views)) logs)) (load world new file files fails)
  unfolding load
  load_keeps new file files fails = loaded_keeps new.name (loaded_table world new file files fails) (loaded_filled new file files fails)

  name_free : (name : List ℕ) → IfGoes (λ (done : Unit {0}). found name world.views ≡ None) (free name world.views)
  name_free name = goes_each (λ (done : Unit {0}). found name world.views ≡ None) (free name world.views) (λ unused is. free_found _ (found name world.views) is)

  opened_filled : (name file : List ℕ) (files : List File) (fails : Bool) → IfGoes (IsLoaded name) (opened_table world name file files fails)
  unfolding opened_table opened_beside
  opened_filled name file files fails = grind (arith, surely, name_free, bind, nat_lt, to, saved_filled)

  open_keeps : (name file : List ℕ) (files : List File) (fails : Bool) → IfGoes (Keeps (λ w. added name (fills_of (found name w.views)) logs)) (open_view world name file files fails)
  unfolding open_view
  open_keeps name file files fails = loaded_keeps name (opened_table world name file files fails) (opened_filled name file files fails)

  relayout_keeps : (name : List ℕ) (term : MapTerm) → IfGoes (Keeps (λ w. replaced name (writes_of (found name w.views)) logs)) (relayout world name term)
  unfolding relayout
  relayout_keeps name term =
      let P : Left → Type 0 = Keeps (λ w. replaced name (writes_of (found name w.views)) logs) in
      bind P (known name world.views) _ (λ table t.
      bind P (nameless world.mappings term) _ (λ whole b.
      behind P (λ (new : Table). new ≡ anew_of table whole) (laid_anew world.views table whole) _ (of_told _ _ (anew_told false world.views table whole)) (λ new anew.
      let there : found name (replaced name new world.views) ≡ Some new = found_replaced name new table world.views (known_found _ (found name world.views) table t) in
      let zeros : Table = zeros_of table.mode table.fields table.extents whole in
      let one : IsCounted new (writes_of (Some new)) =
      subst (λ (n : Table). IsCounted n (writes_of (Some n))) (sym anew)
      (subst (IsCounted (with_written zeros table.rows)) (sym (writes_written zeros table.rows))
      (counted_zeros table.mode table.fields table.extents whole (kept_rows (kept_of zeros) table.rows) (all_accesses Write (leaf_count_of zeros) (length table.rows)))) in
      grind (arith, to, entries_replaced))))

  copied_written : (source table : Table) → IfGoes (λ (new : Table). new ≡ with_written table source.rows) (copied source table)
  unfolding copied
  copied_written source table =
      bind (λ (new : Table). new ≡ with_written table source.rows) (refused_if (not (are_alike source table)) Mismatch) _ (λ alike a. of_told _ _ (rows_told false table source.rows))

  copy_keeps : (name target : List ℕ) → IfGoes (Keeps (λ w. logged target (writes_of (found target w.views)) (logged name (reads_of (found name world.views)) logs))) (copy world name target)
  unfolding copy
  copy_keeps name target =
      let P : Left → Type 0 = Keeps (λ w. logged target (writes_of (found target w.views)) (logged name (reads_of (found name world.views)) logs)) in
      bind P (known name world.views) _ (λ s a.
      let s_is : found name world.views ≡ Some s = known_found _ (found name world.views) s a in
      let read_views : List (Entry Table) = replaced name (all_read s) world.views in
      let read_logs : List (Entry (List Access)) = logged name (reads_of (found name world.views)) logs in
      let read : AreCounted read_views read_logs =
      subst (λ (x : Option Table). AreCounted read_views (logged name (reads_of x) logs)) (sym s_is) (logged_more name world.views logs s s.rows (all_accesses Read (leaf_count_of s) (length s.rows)) all s_is) in
      bind P (known target read_views) _ (λ old b.
      let old_is : found target read_views ≡ Some old = known_found _ (found target read_views) old b in
      behind P (λ (new : Table). new ≡ with_written old s.rows) (copied s old) _ (copied_written s old) (λ new written.
      let there : found target (replaced target new read_views) ≡ Some new = found_replaced target new old read_views old_is in
      let one : AreCounted (replaced target new read_views) (logged target (writes_of (Some new)) read_logs) =
      subst (λ (n : Table). AreCounted (replaced target n read_views) (logged target (writes_of (Some n)) read_logs)) (sym written)
      (subst (λ (more : List Access). AreCounted (replaced target (with_written old s.rows) read_views) (logged target more read_logs)) (sym (writes_written old s.rows))
      (logged_more target read_views read_logs old (kept_rows (kept_of old) s.rows) (all_accesses Write (leaf_count_of old) (length s.rows)) read old_is)) in
      to _ (subst (λ (x : Option Table). AreCounted (replaced target new read_views) (logged target (writes_of x) read_logs)) (sym there) one))))

  drop_keeps : (name : List ℕ) → IfGoes (Keeps (λ w. removed name logs)) (drop_view world name)
  unfolding drop_view
  drop_keeps name = bind (Keeps (λ w. removed name logs)) (known name world.views) _ (λ table a. to _ (entries_removed IsCounted name world.views logs all))

  -- what a command did to a table
  record WasDone (outcome : Tested Done) (table : Table) (new : LeftOf Table) : Type 0 where
    done : Done
    is : outcome ≡ Ok done
    held : new.held ≡ after_stores table done.rows done.log

  was_done : (table : Table) (outcome : Tested Done) → IfGoes (WasDone outcome table) (done_to table outcome)
  was_done table outcome = bind (WasDone outcome table) outcome _ (λ done is. to _ (record { done = done; is = is; held = refl }))

  work_keeps : (job : Option OnView) → IfGoes (Keeps (λ w. work_logs world job logs)) (worked world job)
  unfolding on_view
  work_keeps None = to _ all
  work_keeps (Some job) = grind (arith, bind, was_done, logged_more, known_found, to)

  -- a line that goes
  pub step_keeps : (files : List File) (fails : Bool) (sentence : Sentence) → IfGoes (Keeps (λ w. logs_after world sentence w logs)) (step world sentence files fails)
  unfolding step
  step_keeps files fails (line.Define name tree) = surely _ _ (define_keeps name tree)
  step_keeps files fails (line.Mapping name term) = surely _ _ (mapping_keeps name term)
  step_keeps files fails (line.View new) = surely _ _ (view_keeps new)
  step_keeps files fails (line.Load new file) = load_keeps new file files fails
  step_keeps files fails (line.Open name file) = open_keeps name file files fails
  step_keeps files fails (line.Copy name target) = surely _ _ (copy_keeps name target)
  step_keeps files fails (line.Relayout name term) = surely _ _ (relayout_keeps name term)
  step_keeps files fails (line.Drop name) = surely _ _ (drop_keeps name)
  step_keeps files fails sentence = surely _ _ (work_keeps (work_of world sentence))
