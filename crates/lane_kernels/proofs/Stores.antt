-- The table after the rows that a kernel goes through together.
use Rattle.lane_kernels.proofs.Imports.{◌≡◌, ℕ, ◌+◌, ◌≤◌, List, [], ◌∷◌, ◌++◌, length, map, take, drop, ℤ, ◌+ℤ◌, ◌*ℤ◌, Option, None, refl, sym, ap, subst, ◌∙◌, arith, length-take, length-drop, option_map, int_min, int_max, flat_map, range_with_len, zip2, map-map, zip2-map, append-nil, length-map, take-map, take-take, flat_map-cons, Owner, in_leaf, column, column_reads, column_writes, with_column, Table, owners_of, answer_of, kept_of, after_log, after_stores, after_log-append, after_stores-append, tallied-append, tallied-kinds, Access, Read, Write, Tally, tallied, stored, first_row_fault, run_rows, reads_on, writes_on, named_row, rows_done, AreTaken, run_fault, stored_count, with_run, KernelFault, Kernel, Axpy, Clamp}
use Rattle.lane_kernels.proofs.Changed.{DoesStore, rows_stored, rows_passed}
use Rattle.lane_kernels.proofs.Faults.{faults_alike, no_fault, done_inside, done_stored}

-- a log of one access in each row
each_access : (access : ℕ → Access) (logs : ℕ → List Access) (rows : List ℕ) → ((row : ℕ) → logs row ≡ access row ∷ []) → map access rows ≡ flat_map logs rows
each_access access logs [] is = refl
each_access access logs (row ∷ rows) is = grind (arith, flat_map, flat_map-cons, (each_access access logs rows is))

no_access : (logs : ℕ → List Access) (rows : List ℕ) → ((row : ℕ) → logs row ≡ []) → flat_map logs rows ≡ []
no_access logs [] none = refl
no_access logs (row ∷ rows) none = flat_map-cons logs row rows ∙ ap (λ (log : List Access). log ++ flat_map logs rows) (none row) ∙ no_access logs rows none

-- the reads of one leaf, and of two
abbrev pub IsReadOf : Kernel → ℕ → ℕ → List Access → Type 0
IsReadOf kernel row count log = (layout : List (List Owner)) (tally : Tally) → tallied layout tally log ≡ tallied layout tally (flat_map (reads_on kernel) (range_with_len row count))

pub one_read : (kernel : Kernel) (x row count : ℕ) → ((at : ℕ) → reads_on kernel at ≡ Read at x ∷ []) → IsReadOf kernel row count (column_reads x row count)
one_read kernel x row count is layout tally = ap (tallied layout tally) (each_access (λ at. Read at x) (reads_on kernel) (range_with_len row count) is)

pub two_reads : (kernel : Kernel) (x y row count : ℕ) → ((at : ℕ) → reads_on kernel at ≡ Read at x ∷ Read at y ∷ []) → IsReadOf kernel row count (column_reads x row count ++ column_reads y row count)
two_reads kernel x y row count is layout tally =
    let rows = range_with_len row count in
    let one : ℕ → List Access = λ at. Read at x ∷ [] in
    let other : ℕ → List Access = λ at. Read at y ∷ [] in
    ap (λ (log : List Access). tallied layout tally (log ++ column_reads y row count)) (each_access (λ at. Read at x) one rows (λ at. refl))
    ∙ ap (λ (log : List Access). tallied layout tally (flat_map one rows ++ log)) (each_access (λ at. Read at y) other rows (λ at. refl))
    ∙ sym (tallied-kinds layout tally one other rows)
    ∙ ap (tallied layout tally) (alike rows)
  where
    alike : (rows : List ℕ) → flat_map (λ at. (Read at x ∷ []) ++ (Read at y ∷ [])) rows ≡ flat_map (reads_on kernel) rows
    alike [] = refl
    alike (at ∷ rows) =
        flat_map-cons (λ at. (Read at x ∷ []) ++ (Read at y ∷ [])) at rows ∙ ap (λ (log : List Access). Read at x ∷ Read at y ∷ log) (alike rows)
        ∙ ap (λ (log : List Access). log ++ flat_map (reads_on kernel) rows) (sym (is at)) ∙ sym (flat_map-cons (reads_on kernel) at rows)

-- rows in which values are stored
pub rows_changed : (old read new : Table) (kernel : Kernel) (leaf row count : ℕ) (value : List ℤ → ℤ) (values : List ℤ) (reads : List Access) (fault : Option KernelFault)
    → DoesStore kernel leaf value → ((at : ℕ) → writes_on kernel at ≡ Write at leaf ∷ []) → IsReadOf kernel row count reads → read ≡ after_log old reads
    → values ≡ map value (take count (drop row old.rows)) → row + count ≤ length old.rows
    → fault ≡ option_map (named_row row leaf) (run_fault leaf values read)
    → new ≡ with_run leaf row values (stored_count (length values) (run_fault leaf values read)) read
    → AreTaken old new kernel row count fault
rows_changed old read new kernel leaf row count value values reads fault does writes reads_are read_is values_are room told wrote =
    let rows = take count (drop row old.rows) in
    let long : length rows ≡ count = omega (arith, length-take count (drop row old.rows), length-drop row old.rows) in
    let here : row + 0 ≡ row = omega arith in
    let own : run_fault leaf values read ≡ run_fault leaf (map value rows) old = ap (run_fault leaf values) read_is ∙ ap (λ (vs : List ℤ). run_fault leaf vs old) values_are in
    let is : fault ≡ first_row_fault (answer_of old) kernel row rows =
    told ∙ ap (option_map (named_row row leaf)) own ∙ sym (faults_alike (answer_of old) kernel leaf row 0 value rows does) ∙ ap (λ (n : ℕ). first_row_fault (answer_of old) kernel n rows) here in
    let f = run_fault leaf values read in
    let done = rows_done row count fault in
    let many : length values ≡ count = ap length values_are ∙ length-map rows value ∙ long in
    let stored_is : stored_count (length values) f ≡ done = ap (λ (n : ℕ). stored_count n f) many ∙ sym (done_stored row leaf count f) ∙ ap (rows_done row count) (sym told) in
    let few : done ≤ count = subst (λ (n : ℕ). rows_done row n fault ≤ n) long (done_inside (answer_of old) kernel row rows fault (sym is)) in
    let first : take done values ≡ map value (take done (drop row old.rows)) =
    ap (take done) values_are ∙ take-map value done rows ∙ ap (map value) (take-take done count (drop row old.rows) few) in
    let changed = take row old.rows ++ run_rows (kept_of old) kernel done (drop row old.rows) in
    record {
      named = is;
      after = wrote
          ∙ ap (λ (n : ℕ). with_run leaf row values n read) stored_is ∙ ap (with_run leaf row values done) read_is
          ∙ ap (λ (vs : List ℤ). after_stores (after_log old reads) (with_column leaf row (map (kept_of old leaf) vs) old.rows) (column_writes leaf row done)) first
          ∙ ap (λ (rs : List (List ℤ)). after_stores (after_log old reads) rs (column_writes leaf row done)) (rows_stored (kept_of old) kernel leaf row done value old.rows (omega arith) does)
          ∙ after_stores-append old old.rows changed reads (column_writes leaf row done)
          ∙ ap (λ (t : Tally). record old { rows = changed; tally = t }) (counted_alike (owners_of old) old.tally done);
    }
  where
    counted_alike : (layout : List (List Owner)) (tally : Tally) (done : ℕ)
        → tallied layout tally (reads ++ column_writes leaf row done) ≡ tallied layout tally (flat_map (reads_on kernel) (range_with_len row count) ++ flat_map (writes_on kernel) (range_with_len row done))
    counted_alike layout tally done =
        sym (tallied-append layout tally reads (column_writes leaf row done))
        ∙ ap (λ (t : Tally). tallied layout t (column_writes leaf row done)) (reads_are layout tally)
        ∙ tallied-append layout tally (flat_map (reads_on kernel) (range_with_len row count)) (column_writes leaf row done)
        ∙ ap (λ (log : List Access). tallied layout tally (flat_map (reads_on kernel) (range_with_len row count) ++ log)) (each_access (λ at. Write at leaf) (writes_on kernel) (range_with_len row done) writes)

-- rows of which a leaf is read alone
pub rows_read_alone : (old new : Table) (kernel : Kernel) (x row count : ℕ) → ((values : List ℤ) → stored kernel values ≡ None) → ((at : ℕ) → reads_on kernel at ≡ Read at x ∷ [])
    → ((at : ℕ) → writes_on kernel at ≡ []) → new ≡ after_log old (column_reads x row count) → AreTaken old new kernel row count None
rows_read_alone old new kernel x row count none reads writes read = grind (arith, no_fault, each_access, range_with_len, append-nil, flat_map, no_access, rows_passed)

-- the two kernels that store
pub axpy_taken : (old first read new : Table) (a : ℤ) (x y row count : ℕ) (xs ys values : List ℤ) (fault : Option KernelFault)
    → first ≡ after_log old (column_reads x row count) → read ≡ after_log first (column_reads y row count)
    → xs ≡ column x (take count (drop row old.rows)) → ys ≡ column y (take count (drop row first.rows)) → values ≡ zip2 (λ v w. a *ℤ v +ℤ w) xs ys → row + count ≤ length old.rows
    → fault ≡ option_map (named_row row y) (run_fault y values read)
    → new ≡ with_run y row values (stored_count (length values) (run_fault y values read)) read
    → AreTaken old new (Axpy a x y) row count fault
axpy_taken old first read new a x y row count xs ys values fault one other xs_are ys_are made room told wrote =
    let rows = take count (drop row old.rows) in
    rows_changed old read new (Axpy a x y) y row count (λ seen. a *ℤ in_leaf x seen +ℤ in_leaf y seen) values (column_reads x row count ++ column_reads y row count) fault
    (record { stores = λ seen. refl }) (λ at. refl) (two_reads (Axpy a x y) x y row count (λ at. refl))
    (other ∙ ap (λ (t : Table). after_log t (column_reads y row count)) one ∙ after_log-append old (column_reads x row count) (column_reads y row count))
    (grind (arith, zip2-map))
    room told wrote

pub clamp_taken : (old read new : Table) (x : ℕ) (lo hi : ℤ) (row count : ℕ) (xs values : List ℤ) (fault : Option KernelFault)
    → read ≡ after_log old (column_reads x row count) → xs ≡ column x (take count (drop row old.rows)) → values ≡ map (λ v. int_max lo (int_min v hi)) xs → row + count ≤ length old.rows
    → fault ≡ option_map (named_row row x) (run_fault x values read)
    → new ≡ with_run x row values (stored_count (length values) (run_fault x values read)) read
    → AreTaken old new (Clamp x lo hi) row count fault
clamp_taken old read new x lo hi row count xs values fault one xs_are made room told wrote =
    rows_changed old read new (Clamp x lo hi) x row count (λ seen. int_max lo (int_min (in_leaf x seen) hi)) values (column_reads x row count) fault
    (record { stores = λ seen. refl }) (λ at. refl) (one_read (Clamp x lo hi) x row count (λ at. refl)) one
    (made ∙ ap (map (λ v. int_max lo (int_min v hi))) xs_are ∙ map-map (λ v. int_max lo (int_min v hi)) (in_leaf x) (take count (drop row old.rows)))
    room told wrote
