-- The commands that change or read a table, done to alike worlds.
use Rattle.equal_runs.proofs.Imports.{◌≡◌, ℕ, Bool, true, ℤ, List, [], ◌∷◌, ◌++◌, length, Option, Some, None, Result, Ok, refl, sym, ap, subst, ◌∙◌, not, slice_index_or, indices, place_in, PathStep, kinds_of, texts_of, MapTerm, holds_by, hold_at, with_entry, Keeping, kind_at, Access, Write, Tally, all_accesses, Read, LeafCounts, counts_text, StoreFault, Term, Value, Assignment, KernelText, Table, leaf_count_of, answer_of, kept_of, after_stores, Setting, updated_rows, value_log, rows_log, UpdateFault, UpdateKind, KernelFault, Kernel, World, Done, stores, tells, done_to, with_table, on_view, ◌>>=◌, LeftOf, Left, known, some_or, refused_if, ok_or, leaf_of, bound, bound_filter, bound_sets, each_once, leaves_of, text_of_leaf, storable, store_fault, value_on, inside, assigned, updated, update_fault, kind_fault, are_alike, all_read, copied, copy, kernel_outcome, fit_kernel, kernel_run, number_text, kernel_row_fault, counts, drop_view, Mismatch, NotCounted, is_of_layout, ⊤, content_of, Work, Reads, Shows, left_as, does, OnView, worked, Tested, arith}
use Rattle.row_updates.specs.declared.fault.UpdateKind.TheVariants as update_kind
use Rattle.lane_kernels.specs.Kernels as kernels
use Rattle.lane_kernels.specs.Logs as kernel_logs
use Rattle.equal_runs.proofs.Agreeing.{Agree, go, first, second, bind, before, both_told}
use Rattle.equal_runs.proofs.Answers.{Answers, is_narrow, store_answers, ok_agree, by_agree}
use Rattle.equal_runs.proofs.Entries.{known_agree, entries_replaced, entries_removed}
use Rattle.equal_runs.proofs.Kernels.{is_narrow_kernel, kernel_causes}
use Rattle.equal_runs.proofs.Tables.{AlikeTables, AlikeWorlds, AlikeAlways, of_mapping, of_both, rewritten_alike, with_written, written_under, rows_told}
use Rattle.equal_runs.proofs.TallyCounts.{SameCounts}
use Rattle.equal_runs.proofs.Updates.{is_narrow_update, rows_answers, fit_rows, rows_are}

-- the table under another mapping, with another tally
abbrev pub under : Table → MapTerm → Tally → Table
under table mapping tally = record table { mapping = mapping; tally = tally }

pub narrow_store : (row : ℕ) (leaf : List ℕ) (n : Bool) (e : StoreFault) → is_narrow e ≡ true → is_of_layout n (store_fault row leaf e) ≡ true
narrow_store row leaf n e is = grind arith

narrow_update : (table : Table) (n : Bool) (e : UpdateFault) → is_narrow_update e ≡ true → is_of_layout n (update_fault table.fields e) ≡ true
narrow_update table n e is = of_kind e.kind is where
  of_kind : (kind : UpdateKind) → is_narrow_update (record { row = e.row; kind = kind }) ≡ true → is_of_layout n (kind_fault table.fields e.row kind) ≡ true
  of_kind (update_kind.Narrow leaf) is = refl
  of_kind kind is = absurd (cc)

narrow_run : (table : Table) (n : Bool) (e : KernelFault) → is_narrow_kernel e ≡ true → is_of_layout n (kernel_row_fault table.fields e) ≡ true
narrow_run table n e is = grind arith

-- what both do is the same, where neither is refused
abbrev pub SameDone : Done → Done → Type 0
SameDone a b = b ≡ a

abbrev pub Same : Bool → Bool → Tested Done → Tested Done → Type 0
Same m o x y = Agree m o SameDone x y

-- tables that are left, and texts
record AlikeDone (done other : LeftOf Table) : Type 0 where
  tables : AlikeTables done.held other.held
  text : other.text ≡ done.text

-- it reads alone
abbrev IsReading : Work → Type 0
IsReading (Reads command) = ⊤
IsReading _ = ⊥

-- a table, and that table under another mapping, which are alike
module _ (m o : Bool) (table : Table) (mapping : MapTerm) (tally : Tally) (same : AlikeTables table (under table mapping tally)) where
  -- the answers to a store in them
  pub answers_under : (leaf : ℕ) (value : ℤ) → Answers is_narrow (Unit {0}) (answer_of table leaf value) (answer_of (under table mapping tally) leaf value)
  answers_under leaf value =
      store_answers table.mode (kind_at (kinds_of table.fields) leaf) (hold_at (holds_by table.mapping table.fields) leaf) (hold_at (holds_by mapping table.fields) leaf) value
      (λ always. ap (λ (keep : Keeping). keep leaf value) same.kept)

  pub assigned_agree : (index : List ℕ) (path : List PathStep) (value : Value) → Same m o (assigned table index path value) (assigned (under table mapping tally) index path value)
  unfolding assigned
  assigned_agree index path value =
      before SameDone (leaf_of table.fields path) _ _ (λ leaf.
      before SameDone (bound table.fields (length table.extents) value) _ _ (λ term.
      before SameDone (inside table.extents index) _ _ (λ is_inside.
      let row : ℕ = place_in (indices table.extents) index in
      before SameDone (value_on row (slice_index_or table.rows row []) index term) _ _ (λ number.
      stored leaf row number (value_log row (slice_index_or table.rows row []) index term ++ Write row leaf ∷ [])))))
    where
      stored : (leaf row : ℕ) (number : ℤ) (log : List Access)
          → Same m o (storable table row leaf number >>= (λ kept. Ok (stores (with_entry table.rows row leaf kept) log)))
          (storable (under table mapping tally) row leaf number >>= (λ kept. Ok (stores (with_entry table.rows row leaf kept) log)))
      stored leaf row number log =
          bind (ok_agree m o is_narrow (store_fault row (text_of_leaf table.fields leaf)) _ _ (narrow_store row (text_of_leaf table.fields leaf)) (answers_under leaf number))
          (λ kept others given. go _ _ (ap (λ (number : ℤ). stores (with_entry table.rows row leaf number) log) (given.same tt)))

  module _ (test : Option (Term ℕ)) (settings : List Setting) where
    abbrev update_log : Table → List Access
    update_log t = rows_log (answer_of t) test settings table.extents table.rows (length table.rows)

    abbrev new_rows : Table → Result (List (List ℤ)) UpdateFault
    new_rows t = updated_rows (answer_of t) (kept_of t) test settings table.extents table.rows (length table.rows)

    -- where both go, both have the same accesses
    log_is : (t : Table) (rows : List (List ℤ)) → new_rows t ≡ Ok rows → update_log t ≡ fit_rows test settings table.extents table.rows (length table.rows)
    log_is t rows goes = rows_are (kept_of t) (answer_of t) test settings table.extents table.rows (length table.rows) rows goes

    updated_agree_of : Same m o (ok_or (update_fault table.fields) (new_rows table) >>= (λ rows. Ok (stores rows (update_log table))))
        (ok_or (update_fault table.fields) (new_rows (under table mapping tally)) >>= (λ rows. Ok (stores rows (update_log (under table mapping tally)))))
    updated_agree_of =
        bind (ok_agree m o is_narrow_update (update_fault table.fields) _ _ (narrow_update table)
        (subst (λ (keep : Keeping). Answers is_narrow_update (Unit {0}) (new_rows table) (updated_rows (answer_of (under table mapping tally)) keep test settings table.extents table.rows (length table.rows)))
        (sym same.kept)
        (rows_answers (kept_of table) (answer_of table) (answer_of (under table mapping tally)) answers_under test settings table.extents table.rows (length table.rows))))
        (λ rows others given. go _ _
        (ap (λ (r : List (List ℤ)). stores r (update_log (under table mapping tally))) (given.same tt)
        ∙ ap (λ (log : List Access). stores rows log) (log_is (under table mapping tally) others given.second ∙ sym (log_is table rows given.first))))

  pub updated_agree : (filter : Option Value) (sets : List Assignment) → Same m o (updated table filter sets) (updated (under table mapping tally) filter sets)
  unfolding updated
  updated_agree filter sets =
      before SameDone (bound_filter table.fields (length table.extents) filter) _ _ (λ test.
      before SameDone (bound_sets table.fields (length table.extents) sets) _ _ (λ settings.
      before SameDone (each_once table.fields [] (leaves_of settings)) _ _ (λ once. updated_agree_of test settings)))

  -- what a kernel does whose stores keep these numbers
  abbrev ran_by : Keeping → Kernel → Done
  ran_by keep fit = record {
    rows = kernels.run_rows keep fit (length table.rows) table.rows;
    log = kernel_logs.kernel_rows_log fit (length table.rows);
    text = number_text (kernels.given_number fit table.rows);
  }

  pub ran_agree : (text : KernelText) (lanes : ℕ) → Same m o (kernel_run table text lanes) (kernel_run (under table mapping tally) text lanes)
  unfolding kernel_run
  ran_agree text lanes = before SameDone (fit_kernel table.fields text lanes) _ _ ran where
    ran : (fit : Kernel) → Same m o (kernel_outcome table fit) (kernel_outcome (under table mapping tally) fit)
    ran fit =
        bind (by_agree m o is_narrow_kernel (kernel_row_fault table.fields) _ _ (narrow_run table)
        (kernel_causes (answer_of table) (answer_of (under table mapping tally)) answers_under fit table.rows))
        (λ done other p. go _ _ (ap (λ (keep : Keeping). ran_by keep fit) same.kept))

  -- one that does not count has such a fault
  pub counts_agree : Same m o (does (Shows counts) table) (does (Shows counts) (under table mapping tally))
  unfolding counts
  counts_agree = of_counts table.tally.counts tally.counts same.counts where
    of_counts : (x y : Option LeafCounts) → SameCounts x y
        → Same m o (some_or NotCounted x >>= (λ numbers. Ok (tells (counts_text (texts_of table.fields) numbers))) >>= (λ told. Ok (left_as table told)))
        (some_or NotCounted y >>= (λ numbers. Ok (tells (counts_text (texts_of table.fields) numbers))) >>= (λ told. Ok (left_as table told)))
    of_counts None y is = first NotCounted _ refl
    of_counts (Some x) None is = second _ NotCounted refl
    of_counts (Some x) (Some y) is = go _ _ (ap (λ (numbers : LeafCounts). left_as table (tells (counts_text (texts_of table.fields) numbers))) is)

  -- what reads gets the same from both
  reads_agree : (work : Work) → IsReading work → Same m o (does work table) (does work (under table mapping tally))
  reads_agree (Reads command) is = before SameDone (command (content_of table)) _ _ (λ told. go _ _ refl)
  reads_agree work is = absurd is

  -- the same is done to both
  done_agree : (x y : Tested Done) → Same m o x y → Agree m o AlikeDone (done_to table x) (done_to (under table mapping tally) y)
  done_agree x y agree =
      bind agree
      (λ a b is. go _ _ (subst (λ (d : Done). AlikeDone (record { held = after_stores table a.rows a.log; text = a.text }) (record { held = after_stores (under table mapping tally) d.rows d.log; text = d.text }))
      (sym is) (record { tables = rewritten_alike table mapping tally same a.rows a.log; text = refl })))

  -- rows that are copied into both
  copied_agree : (source : Table) (from : MapTerm) (counted_from : Tally) → Agree m o AlikeTables (copied source table) (copied (under source from counted_from) (under table mapping tally))
  unfolding copied
  copied_agree source from counted_from =
      before AlikeTables (refused_if (not (are_alike source table)) Mismatch) _ _ (λ alike.
      both_told (rows_told m table source.rows) (rows_told o (under table mapping tally) source.rows)
      (of_both AlikeTables (with_written table source.rows) (with_written (under table mapping tally) source.rows) (written_under table mapping tally same source.rows)))

  -- each value is read once
  read_alike : AlikeTables (all_read table) (all_read (under table mapping tally))
  read_alike = rewritten_alike table mapping tally same table.rows (all_accesses Read (leaf_count_of table) (length table.rows))

-- what a line does to a view, and what it does in an alike world: a line that only reads is the same in both
abbrev OnBoth : Bool → Bool → (Table → Tested Done) → (Table → Tested Done) → Type 0
OnBoth m o command changed = (table : Table) (mapping : MapTerm) (tally : Tally) → AlikeTables table (under table mapping tally) → Same m o (command table) (changed (under table mapping tally))

abbrev pub OnlyReads : Option OnView → Type 0
OnlyReads None = ⊤
OnlyReads (Some line) = IsReading line.work

pub data AlikeLines (m o : Bool) : Option OnView → Option OnView → Type 0 where
  reads : (line : Option OnView) → OnlyReads line → AlikeLines m o line line
  works : (view : List ℕ) (work changed : Work) → OnBoth m o (does work) (does changed) → AlikeLines m o (Some (record { view = view; work = work })) (Some (record { view = view; work = changed }))

-- worlds with alike tables under a name
with_agree : (world other : World) → AlikeWorlds world other → (name : List ℕ) (a b : Table) → AlikeTables a b → AlikeWorlds (with_table world name a) (with_table other name b)
with_agree world other alike name a b same = grind (arith, entries_replaced)

-- alike worlds
module _ (m o : Bool) (world other : World) (alike : AlikeWorlds world other) where
  -- what is done to a table that a name stands for
  on_table : (name : List ℕ) (f g : Table → Tested Left)
      → ((table : Table) (mapping : MapTerm) (tally : Tally) → AlikeTables table (under table mapping tally) → Agree m o AlikeAlways (f table) (g (under table mapping tally)))
      → Agree m o AlikeAlways (known name world.views >>= f) (known name other.views >>= g)
  on_table name f g each =
      bind (known_agree m o AlikeTables name world.views other.views alike.views)
      (λ a b at. of_mapping (λ (t : Table). Agree m o AlikeAlways (f a) (g t)) a b at.alike (each a))

  -- a command on a view agrees with another where it does to a table what the other does to that table under another mapping
  view_agree : (name : List ℕ) (command changed : Table → Tested Done) → OnBoth m o command changed → Agree m o AlikeAlways (on_view world name command) (on_view other name changed)
  unfolding on_view
  view_agree name command changed each =
      on_table name _ _ (λ table mapping tally same.
      bind (done_agree m o table mapping tally same (command table) (changed (under table mapping tally)) (each table mapping tally same))
      (λ a b done. go _ _ (record { worlds = λ always also. with_agree world other alike name a.held b.held done.tables; text = done.text })))

  pub worked_agree : (line changed : Option OnView) → AlikeLines m o line changed → Agree m o AlikeAlways (worked world line) (worked other changed)
  worked_agree line changed (reads None is) = go _ _ (record { worlds = λ always also. alike; text = refl })
  worked_agree line changed (reads (Some one) is) = view_agree one.view (does one.work) (does one.work) (λ table mapping tally same. reads_agree m o table mapping tally same one.work is)
  worked_agree line changed (works view work other_work each) = view_agree view (does work) (does other_work) each

  pub drop_agree : (name : List ℕ) → Agree m o AlikeAlways (drop_view world name) (drop_view other name)
  unfolding drop_view
  drop_agree name = grind (arith, on_table, go, entries_removed)

-- the target is looked up after the source was read
pub copy_agree : (m o : Bool) (world other : World) → AlikeWorlds world other → (name target : List ℕ) → Agree m o AlikeAlways (copy world name target) (copy other name target)
unfolding copy
copy_agree m o world other alike name target =
    on_table m o world other alike name _ _ (λ source from counted_from same.
    let changed : Table = under source from counted_from in
    let read = with_table world name (all_read source) in
    let read_other = with_table other name (all_read changed) in
    let alike_read : AlikeWorlds read read_other = with_agree world other alike name _ _ (read_alike m o source from counted_from same) in
    on_table m o read read_other alike_read target _ _ (λ table to tally same_to.
    bind (copied_agree m o table to tally same_to source from counted_from)
    (λ a b alike_new. go _ _ (record { worlds = λ always also. with_agree read read_other alike_read target a b alike_new; text = refl }))))
