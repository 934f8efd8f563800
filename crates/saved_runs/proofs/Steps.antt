-- Each line of a run leaves a world whose tables files can say.
use Rattle.saved_runs.proofs.Imports.{◌≡◌, ℕ, ◌^◌, ◌<◌, ◌≤◌, Bool, true, false, ℤ, nat_lt, not, List, length, Option, Some, None, ⊎_elim, refl, sym, ap, subst, arith, cases_eq, indices, length-indices, File, Sentence, New, Two, MapTerm, holds_by, HasShape, hold_at, leaves, kinds_of, Fields, csv_records, records_behind, dataset_of, AreAlike, refused_at, kept_rows, Table, answer_of, kept_of, leaf_count_of, after_stores, Access, Read, all_accesses, line_tokens, tokens_read, AreRows, view_line, header_of, OpensFiles, HoldsBits, HoldsRows, World, Entry, found, replaced, copy, copied, in_words, with_rows, all_read, laid_anew, relayout, are_alike, narrow_fault, open_view, opened_table, load, loaded_table, loaded, filled, read, row_fault, nameless, Done, done_to, on_view, worked, LeftOf, Left, known, refused_if, refused_by, ok_or, drop_view, step, work_of, resolved, made, zeros_of, named, new_table, view, with_view, TooBig, not_alike, IfGoes, to, refused, bind, behind, known_found, IsSavable, Ok, OnView, does, Tested, sure, surely}
use Rattle.line_grammar.specs.Sentences as line
use Rattle.saved_runs.proofs.Went.{unrefused, answered}
use Rattle.saved_runs.proofs.Saves.{table_opened, table_savable}
use Rattle.saved_runs.proofs.Maps.{HasTokens}
use Rattle.saved_runs.proofs.Lines.{IsSaid, IsNewSaid, sentence_said}
use Rattle.saved_runs.proofs.Extents.{AreExtents, said_extents}
use Rattle.saved_runs.proofs.Rows.{kept_rows_stay}
use Rattle.saved_runs.proofs.Loads.{dataset_stays}
use Rattle.saved_runs.proofs.Worlds.{AreAll, IsGoodRecord, IsGoodMapping, IsGoodWorld, of_found, with_added, with_replaced, with_removed, uncaused, define_good, nameless_good, mapping_good}
use Rattle.saved_runs.proofs.Tables.{IsGoodNamed, IsMade, AreExtentsFor, made_good, resolved_good, named_good}
use Rattle.saved_runs.proofs.Works.{LineKeeps, does_keep, line_keeps}

-- ---- what is known of a table

record_of : (table : Table) → IsSavable table → IsGoodRecord table.fields
record_of table good = record { line = good.lines.of_record; fit = good.lies.fit }

extents_of : (table : Table) → IsSavable table → AreExtents table.extents
extents_of table good =
    let read = tokens_read Two good.lines.of_view.0 (view_line (header_of table)) good.lines.of_view.1 (omega arith) in
    let new : IsSaid (view_line (header_of table)) = sentence_said (line_tokens (view_line (header_of table))) (view_line (header_of table)) read.line read.spelled in
    said_extents table.extents good.lies.shaped good.lies.ranged new.words

-- with other rows that it may hold
stored : (table : Table) (rows : List (List ℤ)) (log : List Access) → IsSavable table → AreRows (header_of table) rows → IsSavable (after_stores table rows log)
stored table rows log good are = record { lines = good.lines; lies = good.lies; rows = are }

-- tables that are alike have as many rows and leaves
same_number : (source target : Table) (n m : ℕ) → are_alike source target ≡ true → (AreAlike source target → n ≡ m) → n ≡ m
same_number source target n m alike same = grind (arith, ⊎_elim, not_alike, cases_eq)

shape_for : (source target : Table) → are_alike source target ≡ true → IsSavable source → HasShape (length (indices target.extents)) (length (leaves target.fields)) source.rows
shape_for source target alike good =
    let rows : length (indices source.extents) ≡ length (indices target.extents) = same_number source target _ _ alike (λ are. ap (λ (e : List ℕ). length (indices e)) are.1) in
    let numbers : length (leaves source.fields) ≡ length (leaves target.fields) = same_number source target _ _ alike (λ are. ap (λ (f : Fields). length (leaves f)) are.0) in
    subst (λ (n : ℕ). HasShape n (length (leaves target.fields)) source.rows) rows (subst (λ (n : ℕ). HasShape (length (indices source.extents)) n source.rows) numbers good.rows.shape)

-- what a command did to a table
record WasDone (table : Table) (new : LeftOf Table) : Type 0 where
  done : Done
  held : new.held ≡ after_stores table done.rows done.log
  rows : AreRows (header_of table) done.rows

was_done : (table : Table) (outcome : Tested Done) → IfGoes (λ (done : Done). AreRows (header_of table) done.rows) outcome → IfGoes (WasDone table) (done_to table outcome)
was_done table outcome keeps =
    behind (WasDone table) (λ (done : Done). AreRows (header_of table) done.rows) outcome _ keeps (λ done are. to _ (record { done = done; held = refl; rows = are }))

made_savable : (zeros : Table) (x : Tested Table) → IfGoes (IsMade zeros) x → IfGoes IsSavable x
made_savable zeros x h2 = grind (arith, to, refused)

unnegated : (test : Bool) → not test ≡ false → test ≡ true
unnegated test is = grind arith

module _ (holds_bits : HoldsBits) where
  wide : (table : Table) → IsSavable table → (leaf : ℕ) → leaf < length (kinds_of table.fields) → 1 ≤ (hold_at (holds_by table.mapping table.fields) leaf).width
  wide table good leaf l = holds_bits (header_of table) leaf good.lines good.lies l

  -- what is kept of rows
  rows_good : (table : Table) (rows : List (List ℤ)) → IsSavable table → HasShape (length (indices table.extents)) (length (leaves table.fields)) rows → IfGoes IsSavable (with_rows in_words table rows)
  unfolding with_rows
  rows_good table rows good shape =
      bind IsSavable (refused_by (narrow_fault table.fields) (refused_at (answer_of table) 0 rows)) _ (λ held h.
      to _ (stored table (kept_rows (kept_of table) rows) _ good
      (kept_rows_stay (header_of table) (wide table good) rows shape (uncaused (narrow_fault table.fields) (refused_at (answer_of table) 0 rows) held h))))

  -- what is kept of a dataset
  filled_good : (table : Table) (records : List (List (List ℕ))) → IsSavable table → length (records_behind records) ≡ length (indices table.extents) → IfGoes IsSavable (filled table records)
  filled_good table records good many =
      bind IsSavable (ok_or (row_fault table.fields) (dataset_of table records)) _ (λ rows r.
      to _ (stored table rows _ good (dataset_stays (header_of table) (wide table good) records rows many (answered (row_fault table.fields) (dataset_of table records) rows r))))

  -- ---- a line

  module _ (world : World) (good : IsGoodWorld world) where
    abbrev Keeps : Left → Type 0
    Keeps left = IsGoodWorld left.held

    -- with another table in place of one, and with one more
    kept : (name : List ℕ) (table : Table) → IsSavable table → IsGoodWorld (record world { views = replaced name table world.views })
    kept name table one = record { records = good.records; mappings = good.mappings; views = with_replaced IsSavable name table world.views one good.views }

    more : (name : List ℕ) (table : Table) → IsSavable table → IsGoodWorld (with_view world name table)
    more name table one = record { records = good.records; mappings = good.mappings; views = with_added IsSavable name table world.views one good.views }

    named_table : (name : List ℕ) (table : Table) → known name world.views ≡ Ok table → IsSavable table
    named_table name table is = of_found IsSavable name world.views table good.views (known_found _ (found name world.views) table is)

    new_good : (new : New) → IsNewSaid new → IfGoes IsSavable (new_table world new)
    unfolding new_table
    new_good new said =
        behind IsSavable (IsGoodNamed new.words) (named world new) _ (named_good world good new said.term) (λ whole one.
        behind IsSavable (AreExtentsFor None) (resolved new.words None) _ (resolved_good new.words None one.shaped said.words) (λ extents are.
        made_savable (zeros_of whole.mode whole.fields extents whole.mapping) (made world.views whole.mode whole.fields extents whole.mapping)
        (made_good holds_bits world.views whole.mode whole.fields extents whole.mapping one.fields are.are one.term)))

    view_good : (new : New) → IsNewSaid new → IfGoes Keeps (view world new)
    unfolding view
    view_good new said = behind Keeps IsSavable (new_table world new) _ (new_good new said) (λ table one. to _ (more new.name table one))

    loaded_good : (new : New) (file : List ℕ) (files : List File) (fails : Bool) → IsNewSaid new → IfGoes IsSavable (loaded_table world new file files fails)
    unfolding loaded_table loaded
    loaded_good new file files fails said =
        behind IsSavable (IsGoodNamed new.words) (sure (named world new)) _ (surely _ _ (named_good world good new said.term)) (λ whole one.
        bind IsSavable (read files fails file) _ (λ bytes b. surely IsSavable _ (
        bind IsSavable (refused_if (nat_lt (2 ^ 28) (length bytes)) TooBig) _ (λ short c.
        behind IsSavable (AreExtentsFor (Some (length (records_behind (csv_records bytes))))) (resolved new.words (Some (length (records_behind (csv_records bytes))))) _
        (resolved_good new.words (Some (length (records_behind (csv_records bytes)))) one.shaped said.words) (λ extents are.
        behind IsSavable (IsMade (zeros_of whole.mode whole.fields extents whole.mapping)) (made world.views whole.mode whole.fields extents whole.mapping) _
        (made_good holds_bits world.views whole.mode whole.fields extents whole.mapping one.fields are.are one.term) (λ table zeros.
        grind (arith, length-indices, filled_good)))))))

    load_good : (new : New) (file : List ℕ) (files : List File) (fails : Bool) → IsNewSaid new → IfGoes Keeps (load world new file files fails)
    unfolding load
    load_good new file files fails said =
        behind Keeps IsSavable (loaded_table world new file files fails) _ (loaded_good new file files fails said) (λ table one. to _ (more new.name table one))

    -- the table of a file
    open_good : OpensFiles → HoldsRows → (name file : List ℕ) (files : List File) (fails : Bool) → IfGoes Keeps (open_view world name file files fails)
    unfolding open_view
    open_good opens_files holds_rows name file files fails =
        bind Keeps (opened_table world name file files fails) _ (λ table t.
        (let was = table_opened world name file files fails table t in
        to _ (more name table (subst IsSavable (sym was.is) (table_savable opens_files holds_rows was.bytes was.saved was.opens)))))

    copied_good : (source target : Table) → IsSavable source → IsSavable target → IfGoes IsSavable (copied source target)
    unfolding copied
    copied_good source target from one = grind (arith, bind, rows_good, shape_for, unnegated, unrefused)

    copy_good : (name target : List ℕ) → IfGoes Keeps (copy world name target)
    unfolding copy
    copy_good name target =
        bind Keeps (known name world.views) _ (λ source s.
        (let of_source : IsSavable source = named_table name source s in
        let read : IsSavable (all_read source) = stored source source.rows (all_accesses Read (leaf_count_of source) (length source.rows)) of_source of_source.rows in
        let views : List (Entry Table) = replaced name (all_read source) world.views in
        let all : AreAll IsSavable views = with_replaced IsSavable name (all_read source) world.views read good.views in
        bind Keeps (known target views) _ (λ old t.
        behind Keeps IsSavable (copied source old) _ (copied_good source old of_source (of_found IsSavable target views old all (known_found _ (found target views) old t))) (λ new one.
        to _ (record { records = good.records; mappings = good.mappings; views = with_replaced IsSavable target new views one all })))))

    laid_good : (table : Table) (term : MapTerm) → IsSavable table → IsGoodMapping term → IfGoes IsSavable (laid_anew world.views table term)
    unfolding laid_anew
    laid_good table term one fit =
        behind IsSavable (IsMade (zeros_of table.mode table.fields table.extents term)) (made world.views table.mode table.fields table.extents term) _
        (made_good holds_bits world.views table.mode table.fields table.extents term (record_of table one) (extents_of table one) fit) (λ zeros new.
        grind (arith, rows_good, leaves))

    relayout_good : (name : List ℕ) (term : MapTerm) → HasTokens term → IfGoes Keeps (relayout world name term)
    unfolding relayout
    relayout_good name term has =
        bind Keeps (known name world.views) _ (λ table t.
        behind Keeps IsGoodMapping (nameless world.mappings term) _ (nameless_good world good term has) (λ whole fit.
        behind Keeps IsSavable (laid_anew world.views table whole) _ (laid_good table whole (named_table name table t) fit) (λ new one. to _ (kept name new one))))

    drop_good : (name : List ℕ) → IfGoes Keeps (drop_view world name)
    unfolding drop_view
    drop_good name = grind (arith, bind, to, with_removed)

    work_good : (line : Option OnView) → ((table : Table) → IsSavable table → LineKeeps table line) → IfGoes Keeps (worked world line)
    unfolding on_view
    work_good None keeps = to _ good
    work_good (Some one) keeps =
        bind Keeps (known one.view world.views) _ (λ table t.
        (let can : IsSavable table = named_table one.view table t in
        behind Keeps (WasDone table) (done_to table (does one.work table)) _ (was_done table (does one.work table) (does_keep holds_bits table can one.work (keeps table can))) (λ new was.
        to _ (kept one.view new.held (subst IsSavable (sym was.held) (stored table was.done.rows was.done.log can was.rows))))))

    pub step_good : OpensFiles → HoldsRows → (files : List File) (fails : Bool) (sentence : Sentence) → IsSaid sentence → IfGoes Keeps (step world sentence files fails)
    unfolding step
    step_good opens_files holds_rows files fails (line.Define name tree) said = surely _ _ (define_good world good name tree said)
    step_good opens_files holds_rows files fails (line.Mapping name term) said = surely _ _ (mapping_good world good name term said)
    step_good opens_files holds_rows files fails (line.View new) said = surely _ _ (view_good new said)
    step_good opens_files holds_rows files fails (line.Load new file) said = load_good new file files fails said
    step_good opens_files holds_rows files fails (line.Copy name target) said = surely _ _ (copy_good name target)
    step_good opens_files holds_rows files fails (line.Relayout name term) said = surely _ _ (relayout_good name term said)
    step_good opens_files holds_rows files fails (line.Drop name) said = surely _ _ (drop_good name)
    step_good opens_files holds_rows files fails (line.Open name file) said = open_good opens_files holds_rows name file files fails
    step_good opens_files holds_rows files fails sentence said = surely _ _ (work_good (work_of world sentence) (λ table one. line_keeps holds_bits table one world sentence))
