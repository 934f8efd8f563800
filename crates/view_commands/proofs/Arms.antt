-- Each command that may store, on a table, by what its parts give.
use Rattle.view_commands.proofs.Imports.{ok_or, ◌≡◌, ◌++◌, ◌∷◌, ℕ, ℤ, pos, List, [], length, Option, Some, None, Result, Ok, Err, refl, sym, ap, ◌∙◌, slice_index_or, Fields, indices, place_in, with_entry, PathStep, Access, Tally, Write, Table, owners_of, answer_of, kept_of, after_log, after_stores, after_write, tallied-append, without_number, StoreFault, LeafTerm, outcome_of, Value, Assignment, Setting, UpdateFault, updated_of, update_log, value_log, Tested, reading, bound, bound_filter, bound_sets, each_once, leaf_of, leaves_of, text_of_leaf, inside, assigned, updated, kernel_run, fit_kernel, number_text, column, column_reads, CommandFault, front_left, kernel_left, left_at, row_of, updated_front, Changed, ChangeFault, Ends, all_left, fault_of_kernel, fault_of_update, front_by, kind_fault, set_in, store_fault, store_told, updated_by, run_rows, OnErr, OnOk, kernel_outcome, kernel_row_fault, form_of, update_fault, arith, fault_text}
use Rattle.view_commands.proofs.Changing.{has_rows, has_same}
use Rattle.command_checks.specs.declared.fault.StepFault.TheVariants as step
use Rattle.view_commands.specs.declared.change.ChangeFault.TheVariants as change
use Rattle.lane_kernels.specs.Kernels.{IsKernelRun, rows_before}
use Rattle.lane_kernels.specs.Reductions.{reduced_by}
use Rattle.lane_kernels.specs.declared.fault.KernelFault.{KernelFault}
use Rattle.lane_kernels.specs.declared.kernel.Kernel.{Kernel}
use Rattle.line_grammar.specs.declared.line.KernelText.{KernelText}
use Rattle.line_grammar.specs.declared.line.ReduceKind.{ReduceKind}
use Rattle.row_updates.specs.Logs.{count_log}
use Rattle.row_updates.specs.Rows.{counted}
use Rattle.row_updates.specs.declared.fault.UpdateKind.{UpdateKind}
unfoldable use Rattle.worlds.specs.Prelude.{reduction, counting}
use Rattle.worlds.specs.Update.{kind_fault as kind_text}
use Rattle.worlds.specs.declared.fault.CommandFault.TheVariants as command

-- ---- a value that is set

pub no_leaf : (table : Table) (index : List ℕ) (path : List PathStep) (value : Value) (fault : CommandFault) → leaf_of table.fields path ≡ Err fault → assigned table index path value ≡ Err fault
unfolding assigned
no_leaf table index path value fault is = rw is refl

pub no_value : (table : Table) (index : List ℕ) (path : List PathStep) (value : Value) (leaf : ℕ) (fault : CommandFault) → leaf_of table.fields path ≡ Ok leaf →
    bound table.fields (length table.extents) value ≡ Err fault → assigned table index path value ≡ Err fault
unfolding assigned
no_value table index path value leaf fault a is = rw (a, is) refl

pub no_index : (table : Table) (index : List ℕ) (path : List PathStep) (value : Value) (leaf : ℕ) (term : LeafTerm ℕ) (fault : CommandFault) → leaf_of table.fields path ≡ Ok leaf →
    bound table.fields (length table.extents) value ≡ Ok term → inside table.extents index ≡ Err fault → assigned table index path value ≡ Err fault
unfolding assigned
no_index table index path value leaf term fault a b is = rw (a, b, is) refl

pub goes_in : (table : Table) (index : List ℕ) (path : List PathStep) (value : Value) (leaf : ℕ) (term : LeafTerm ℕ) → leaf_of table.fields path ≡ Ok leaf →
    bound table.fields (length table.extents) value ≡ Ok term → inside table.extents index ≡ Ok tt → assigned table index path value ≡ set_in table index leaf term
unfolding assigned
goes_in table index path value leaf term a b c = rw (a, b, c) refl

-- an answer without its number
kept_is : (answer : Result ℤ StoreFault) → Ok tt ≡ without_number answer → (kept : ℤ) × (answer ≡ Ok kept)
kept_is answer is = grind arith

fault_is : (answer : Result ℤ StoreFault) (fault : StoreFault) → Err fault ≡ without_number answer → answer ≡ Err fault
fault_is answer fault is = grind arith

-- a table that is read and then stored in
pub read_stored : (table : Table) (rows : List (List ℤ)) (log more : List Access) → after_stores table rows (log ++ more) ≡ after_stores (after_log table log) rows more
read_stored table rows log more = ap (λ (tally : Tally). record table { rows = rows; tally = tally }) (sym (tallied-append (owners_of table) table.tally log more))

stored_in : (table : Table) (row leaf : ℕ) (number kept : ℤ) (log : List Access) → answer_of table leaf number ≡ Ok kept →
    after_stores table (with_entry table.rows row leaf kept) (log ++ Write row leaf ∷ []) ≡ after_write (after_log table log) row leaf number
stored_in table row leaf number kept log is = read_stored table (with_entry table.rows row leaf kept) log (Write row leaf ∷ []) ∙ rw is refl

pub set_done : (old new : Table) (index : List ℕ) (leaf row : ℕ) (term : LeafTerm ℕ) (number : ℤ) → row ≡ place_in (indices old.extents) index →
    Ok number ≡ (outcome_of (slice_index_or old.rows row []) index term).answer → Ok tt ≡ without_number (answer_of old leaf number) →
    new ≡ after_write (after_log old (value_log row (slice_index_or old.rows row []) index term)) row leaf number →
    Changed (set_in old index leaf term) (all_left old) old (Ok None) new
set_done old new index leaf row term number at value answer left = grind (arith, kept_is, slice_index_or, stored_in)

ends_store : {A : Type 0} (fields : Fields) (outcome : Tested A) (row leaf : ℕ) (fault : StoreFault) → outcome ≡ Err (fault_text row (text_of_leaf fields leaf) fault) → Ends fields outcome (store_fault row leaf fault)
ends_store fields outcome row leaf fault is = grind arith

pub set_refused : (old new : Table) (index : List ℕ) (leaf row : ℕ) (term : LeafTerm ℕ) (number : ℤ) (fault : StoreFault) → row ≡ place_in (indices old.extents) index →
    Ok number ≡ (outcome_of (slice_index_or old.rows row []) index term).answer → Err fault ≡ without_number (answer_of old leaf number) →
    new ≡ after_log old (value_log row (slice_index_or old.rows row []) index term) →
    Changed (set_in old index leaf term) (all_left old) old (Err (store_fault row leaf fault)) new
set_refused old new index leaf row term number fault at value answer left = grind (arith, fault_is, ends_store, has_same, slice_index_or)

-- whether it is taken or not
set_by : (old mid new : Table) (index : List ℕ) (leaf row : ℕ) (term : LeafTerm ℕ) (number : ℤ) (told : Result Unit StoreFault) → row ≡ place_in (indices old.extents) index →
    Ok number ≡ (outcome_of (slice_index_or old.rows row []) index term).answer → told ≡ without_number (answer_of old leaf number) →
    mid ≡ after_log old (value_log row (slice_index_or old.rows row []) index term) → OnOk (store_told row leaf told) (new ≡ after_write mid row leaf number) → OnErr (store_told row leaf told) (new ≡ mid) →
    Changed (set_in old index leaf term) (all_left old) old (store_told row leaf told) new
set_by old mid new index leaf row term number (Ok done) at value answer read stored kept = set_done old new index leaf row term number at value answer (stored ∙ ap (λ (table : Table). after_write table row leaf number) read)
set_by old mid new index leaf row term number (Err fault) at value answer read stored kept = set_refused old new index leaf row term number fault at value answer (kept ∙ read)

pub set_told : (old mid new : Table) (index : List ℕ) (leaf row : ℕ) (term : LeafTerm ℕ) (number : ℤ) (answer : Result (Option ℤ) ChangeFault) → row ≡ place_in (indices old.extents) index →
    Ok number ≡ (outcome_of (slice_index_or old.rows row []) index term).answer → mid ≡ after_log old (value_log row (slice_index_or old.rows row []) index term) →
    answer ≡ store_told row leaf (without_number (answer_of mid leaf number)) → OnOk answer (new ≡ after_write mid row leaf number) → OnErr answer (new ≡ mid) →
    Changed (set_in old index leaf term) (all_left old) old answer new
set_told old mid new index leaf row term number answer at value read told stored kept = grind (arith, set_by)

-- ---- an update

pub no_filter : (table : Table) (filter : Option Value) (sets : List Assignment) (fault : CommandFault) → bound_filter table.fields (length table.extents) filter ≡ Err fault → updated table filter sets ≡ Err fault
unfolding updated
no_filter table filter sets fault is = rw is refl

pub no_sets : (table : Table) (filter : Option Value) (sets : List Assignment) (test : Option (LeafTerm ℕ)) (fault : CommandFault) → bound_filter table.fields (length table.extents) filter ≡ Ok test →
    bound_sets table.fields (length table.extents) sets ≡ Err fault → updated table filter sets ≡ Err fault
unfolding updated
no_sets table filter sets test fault a is = rw (a, is) refl

pub not_once : (table : Table) (filter : Option Value) (sets : List Assignment) (test : Option (LeafTerm ℕ)) (settings : List Setting) (fault : CommandFault) →
    bound_filter table.fields (length table.extents) filter ≡ Ok test → bound_sets table.fields (length table.extents) sets ≡ Ok settings →
    each_once table.fields [] (leaves_of settings) ≡ Err fault → updated table filter sets ≡ Err fault
unfolding updated
not_once table filter sets test settings fault a b is = rw (a, b, is) refl

pub update_goes : (table : Table) (filter : Option Value) (sets : List Assignment) (test : Option (LeafTerm ℕ)) (settings : List Setting) →
    bound_filter table.fields (length table.extents) filter ≡ Ok test → bound_sets table.fields (length table.extents) sets ≡ Ok settings →
    each_once table.fields [] (leaves_of settings) ≡ Ok tt → updated table filter sets ≡ updated_by table test settings
unfolding updated
update_goes table filter sets test settings a b c = rw (a, b, c) refl

pub front_goes : (table : Table) (filter : Option Value) (sets : List Assignment) (test : Option (LeafTerm ℕ)) (settings : List Setting) (row : ℕ) →
    bound_filter table.fields (length table.extents) filter ≡ Ok test → bound_sets table.fields (length table.extents) sets ≡ Ok settings →
    each_once table.fields [] (leaves_of settings) ≡ Ok tt → front_left table row (updated_front table filter sets row) ≡ front_by table test settings row
front_goes table filter sets test settings row a b c = rw (a, b, c) refl

pub update_done : (old new : Table) (test : Option (LeafTerm ℕ)) (settings : List Setting) → updated_of old test settings (length old.rows) ≡ Ok new.rows →
    new ≡ after_stores old new.rows (update_log old test settings (length old.rows)) → Changed (updated_by old test settings) (front_by old test settings) old (Ok None) new
update_done old new test settings stored same = rw stored (ap (λ (table : Table). Ok (record { held = table; text = [] })) (sym same))

ends_kind : {A : Type 0} (fields : Fields) (outcome : Tested A) (row : ℕ) (kind : UpdateKind) → outcome ≡ Err (kind_text fields row kind) → Ends fields outcome (kind_fault row kind)
ends_kind fields outcome row kind is = grind arith

pub ends_update : {A : Type 0} (fields : Fields) (outcome : Result A UpdateFault) (fault : UpdateFault) → outcome ≡ Err fault → Ends fields (ok_or (update_fault fields) outcome) (fault_of_update fault)
ends_update fields outcome fault is = ends_kind fields (ok_or (update_fault fields) outcome) fault.row fault.kind (rw is refl)

-- ---- a kernel

pub no_kernel : (table : Table) (text : KernelText) (lanes : ℕ) (fault : CommandFault) → fit_kernel table.fields text lanes ≡ Err fault → kernel_run table text lanes ≡ Err fault
unfolding kernel_run
no_kernel table text lanes fault is = rw is refl

pub kernel_goes : (table : Table) (text : KernelText) (lanes : ℕ) (kernel : Kernel) → fit_kernel table.fields text lanes ≡ Ok kernel → kernel_run table text lanes ≡ kernel_outcome table kernel
unfolding kernel_run
kernel_goes table text lanes kernel is = rw is refl

pub kernel_done : (old new : Table) (text : KernelText) (lanes : ℕ) (kernel : Kernel) (number : Option ℤ) (left : ℕ → List (List ℤ)) → fit_kernel old.fields text lanes ≡ Ok kernel →
    IsKernelRun old new kernel lanes (Ok number) → Changed (kernel_run old text lanes) left old (Ok number) new
kernel_done old new text lanes kernel number left fit run = grind (arith, kernel_goes)

ends_kernel : {A : Type 0} (fields : Fields) (outcome : Tested A) (fault : KernelFault) → outcome ≡ Err (kernel_row_fault fields fault) → Ends fields outcome (fault_of_kernel fault)
ends_kernel fields outcome fault is = grind arith

-- on an empty table a kernel changes nothing
kernel_rows : (old new : Table) (kernel : Kernel) (lanes : ℕ) (fault : KernelFault) → IsKernelRun old new kernel lanes (Err fault) →
    left_at (λ row. run_rows (kept_of old) kernel row old.rows) old (row_of (fault_of_kernel fault)) ≡ run_rows (kept_of old) kernel (rows_before fault) old.rows
kernel_rows old new ran lanes fault run = grind arith

pub kernel_refused : (old new : Table) (text : KernelText) (lanes : ℕ) (kernel : Kernel) (fault : KernelFault) → fit_kernel old.fields text lanes ≡ Ok kernel →
    IsKernelRun old new kernel lanes (Err fault) → Changed (kernel_run old text lanes) (λ row. kernel_left old row (fit_kernel old.fields text lanes)) old (Err (fault_of_kernel fault)) new
kernel_refused old new text lanes kernel fault fit run = grind (arith, ends_kernel, kernel_goes, kernel_rows, has_rows)

-- ---- one number of all rows

pub no_column : (table : Table) (kind : ReduceKind) (path : List PathStep) (fault : CommandFault) → leaf_of table.fields path ≡ Err fault →
    reading (λ content. reduction content kind path) table ≡ Err fault
unfolding reduction
no_column table kind path fault is = rw is refl

pub reduce_done : (old new : Table) (kind : ReduceKind) (path : List PathStep) (leaf : ℕ) (number : ℤ) → leaf_of old.fields path ≡ Ok leaf → Some number ≡ reduced_by (form_of kind) (column leaf old.rows) →
    new ≡ after_log old (column_reads leaf 0 (length old.rows)) → Changed (reading (λ content. reduction content kind path) old) (all_left old) old (Ok (Some number)) new
unfolding reduction
reduce_done old new kind path leaf number a is left = rw (a, ← is) (ap (λ (table : Table). Ok (record { held = table; text = number_text (Some number) })) (sym left))

pub reduce_empty : (old new : Table) (kind : ReduceKind) (path : List PathStep) (leaf : ℕ) (log : List Access) → leaf_of old.fields path ≡ Ok leaf → None ≡ reduced_by (form_of kind) (column leaf old.rows) →
    new ≡ after_log old log → Changed (reading (λ content. reduction content kind path) old) (all_left old) old (Err (change.Other (step.Command command.Empty))) new
unfolding reduction
reduce_empty old new kind path leaf log a is left = (rw (a, ← is) refl, has_same old new log left)

pub no_test : (table : Table) (filter : Value) (fault : CommandFault) → bound table.fields (length table.extents) filter ≡ Err fault → reading (λ content. counting content filter) table ≡ Err fault
unfolding counting
no_test table filter fault is = rw is refl

pub count_done : (old new : Table) (filter : Value) (term : LeafTerm ℕ) (rows : ℕ) → bound old.fields (length old.extents) filter ≡ Ok term → Ok rows ≡ counted term old.extents old.rows →
    new ≡ after_log old (count_log term old.extents old.rows (length old.rows)) → Changed (reading (λ content. counting content filter) old) (all_left old) old (Ok (Some (pos rows))) new
unfolding counting
count_done old new filter term rows a is left = rw (a, ← is) (ap (λ (table : Table). Ok (record { held = table; text = number_text (Some (pos rows)) })) (sym left))

pub count_refused : (old new : Table) (filter : Value) (term : LeafTerm ℕ) (fault : UpdateFault) (log : List Access) → bound old.fields (length old.extents) filter ≡ Ok term →
    Err fault ≡ counted term old.extents old.rows → new ≡ after_log old log → Changed (reading (λ content. counting content filter) old) (all_left old) old (Err (fault_of_update fault)) new
unfolding counting
count_refused old new filter term fault log a is left = grind (arith, ends_kind, has_same)
