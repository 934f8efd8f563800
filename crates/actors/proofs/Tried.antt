-- Rows that are tried one after another, as an update tries them, and what was read of them.
use Rattle.actors.proofs.Imports.{true, false, filter, rows_push, rows_stop, ◌≡◌, ℕ, ◌+◌, ◌-◌, ◌<◌, Bool, ℤ, List, [], ◌∷◌, ◌++◌, map, get_or, Option, Some, None, Result, Ok, Err, refl, sym, ap, ◌∙◌, arith, append-nil, filter-append, Term, outcome_of, index_at, StoreAnswer, Keeping, Table, answer_of, kept_of, after_log, Access, Read, Write, is_read, is_write, reads_in, writes_in, after_log-append, after_log-none, logs_more, UpdateFault, value_log, filter_log, if_ok, if_passes, sides_log, stores_log, tried_log, if_given, row_log, update_log, Setting, passes, new_value, tried_row, given_row, updated_row, updated_of, updated_as_tried, log_as_tried, IsUpdated, IsUpdatedRow}

-- things that are all of a kind, or none of them
all_kept : {X Y : Type 0} (test : Y → Bool) (f : X → Y) → ((x : X) → test (f x) ≡ true) → (xs : List X) → filter test (map f xs) ≡ map f xs
all_kept test f pass [] = refl
all_kept {X} {Y} test f pass (x ∷ xs) = rw (pass x) (ap (λ (w : List Y). f x ∷ w) (all_kept test f pass xs))

none_kept : {X Y : Type 0} (test : Y → Bool) (f : X → Y) → ((x : X) → test (f x) ≡ false) → (xs : List X) → filter test (map f xs) ≡ []
none_kept test f fail [] = refl
none_kept test f fail (x ∷ xs) = rw (fail x) (none_kept test f fail xs)

module _ (answer : StoreAnswer) (number : ℕ) (row : List ℤ) (index : List ℕ) where
  -- a log of reads alone
  pub record AreReads (log : List Access) : Type 0 where
    pub reads : reads_in log ≡ log
    pub writes : writes_in log ≡ []

  no_log : AreReads []
  no_log = record { reads = refl; writes = refl }

  value_reads : (value : Term ℕ) → AreReads (value_log number row index value)
  value_reads value =
      let leaves = (outcome_of row index value).reads in
      record { reads = all_kept is_read (Read number) (λ leaf. refl) leaves; writes = none_kept is_write (Read number) (λ leaf. refl) leaves }

  both_read : (first rest : List Access) → AreReads first → AreReads rest → AreReads (first ++ rest)
  both_read first rest one two = grind (arith, filter-append)

  ok_reads : {A : Type 0} (found : Result A UpdateFault) (log : List Access) → AreReads log → AreReads (if_ok found log)
  ok_reads found log are = grind (arith, no_log)

  sides_read : (sets : List Setting) → AreReads (sides_log answer number row index sets)
  sides_read [] = no_log
  sides_read (set ∷ sets) = both_read (value_log number row index set.value) (if_ok (new_value answer number row index set) (sides_log answer number row index sets)) (value_reads set.value)
      (ok_reads (new_value answer number row index set) (sides_log answer number row index sets) (sides_read sets))

  passes_read : (found : Result Bool UpdateFault) (log : List Access) → AreReads log → AreReads (if_passes found log)
  passes_read found log are = grind (arith, no_log)

  filter_read : (filter : Option (Term ℕ)) → AreReads (filter_log number row index filter)
  filter_read None = no_log
  filter_read (Some filter) = value_reads filter

  module _ (filter : Option (Term ℕ)) (sets : List Setting) where
    tried_read : AreReads (tried_log answer filter sets number row index)
    tried_read =
        both_read (filter_log number row index filter) (if_passes (passes number row index filter) (sides_log answer number row index sets)) (filter_read filter)
        (passes_read (passes number row index filter) (sides_log answer number row index sets) (sides_read sets))

    given_reads : (given : Result (Option (List ℤ)) UpdateFault) → reads_in (if_given given (stores_log number sets)) ≡ []
    given_reads given = grind (arith, (none_kept is_read (λ (set : Setting). Write number set.leaf) (λ set. refl) sets))

    given_writes : (given : Result (Option (List ℤ)) UpdateFault) → writes_in (if_given given (stores_log number sets)) ≡ if_given given (stores_log number sets)
    given_writes given = grind (arith, (all_kept is_write (λ (set : Setting). Write number set.leaf) (λ set. refl) sets))

    -- the reads of a row are those of trying it, and its writes those of what it is given
    pub row_reads : reads_in (row_log answer filter sets number row index) ≡ tried_log answer filter sets number row index
    row_reads =
        let given = if_given (tried_row answer filter sets number row index) (stores_log number sets) in
        ap reads_in (log_as_tried answer filter sets number row index) ∙ filter-append is_read (tried_log answer filter sets number row index) given
        ∙ ap (λ (w : List Access). w ++ reads_in given) tried_read.reads
        ∙ ap (λ (w : List Access). tried_log answer filter sets number row index ++ w) (given_reads (tried_row answer filter sets number row index))
        ∙ append-nil (tried_log answer filter sets number row index)

    pub row_writes : writes_in (row_log answer filter sets number row index) ≡ if_given (tried_row answer filter sets number row index) (stores_log number sets)
    row_writes =
        let given = if_given (tried_row answer filter sets number row index) (stores_log number sets) in
        ap writes_in (log_as_tried answer filter sets number row index) ∙ filter-append is_write (tried_log answer filter sets number row index) given
        ∙ ap (λ (w : List Access). w ++ writes_in given) tried_read.writes ∙ given_writes (tried_row answer filter sets number row index)

    -- a row that can be tried is updated, and one that cannot has the fault
    pub row_updated : (keep : Keeping) (tried : Option (List ℤ)) → tried_row answer filter sets number row index ≡ Ok tried → updated_row answer keep filter sets number row index ≡ Ok (given_row keep sets tried row)
    row_updated keep tried gives = updated_as_tried answer filter sets number row index keep ∙ rw gives refl

module _ (old : Table) (filter : Option (Term ℕ)) (sets : List Setting) where
  -- the rows so far were tried
  pub record AreTried (view : Table) (row : ℕ) : Type 0 where
    pub read : view ≡ after_log old (reads_in (update_log old filter sets row))
    pub updated : IsUpdated (updated_of old filter sets row)

  pub none_tried : AreTried old 0
  none_tried = record { read = sym (after_log-none old); updated = ([], refl) }

  -- a row as the table had it
  abbrev row_step : ℕ → Result (List ℤ) UpdateFault
  row_step row = updated_row (answer_of old) (kept_of old) filter sets row (get_or old.rows row []) (index_at old.extents row)

  abbrev log_step : ℕ → List Access
  log_step row = row_log (answer_of old) filter sets row (get_or old.rows row []) (index_at old.extents row)

  -- what was read where one row more was tried
  pub one_read : (view after : Table) (row : ℕ) → AreTried view row
      → after ≡ after_log view (reads_in (row_log (answer_of view) filter sets row (get_or view.rows row []) (index_at view.extents row)))
      → after ≡ after_log old (reads_in (update_log old filter sets (row + 1)))
  one_read view after row so_far read =
      read ∙ ap (λ (t : Table). after_log t (reads_in (row_log (answer_of t) filter sets row (get_or t.rows row []) (index_at t.extents row)))) so_far.read
      ∙ after_log-append old (reads_in (update_log old filter sets row)) (reads_in (log_step row))
      ∙ ap (after_log old) (sym (ap reads_in (logs_more log_step row) ∙ filter-append is_read (update_log old filter sets row) (log_step row)))

  pub one_tried : (view after : Table) (row : ℕ) → AreTried view row → IsUpdatedRow (row_step row) → after ≡ after_log old (reads_in (update_log old filter sets (row + 1))) → AreTried after (row + 1)
  one_tried view after row so_far updated read = record {
    read = read;
    updated = (so_far.updated.0 ++ updated.0 ∷ [], rows_push row_step row so_far.updated.0 updated.0 so_far.updated.1 updated.1);
  }

  pub stop_tried : (view : Table) (row count : ℕ) (fault : UpdateFault) → row < count → AreTried view row → row_step row ≡ Err fault → updated_of old filter sets count ≡ Err fault
  stop_tried view row count fault low so_far stop = rows_stop row_step count row so_far.updated.0 fault low so_far.updated.1 stop
