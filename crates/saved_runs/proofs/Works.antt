-- A command on one view leaves rows that the view may hold.
use Rattle.saved_runs.proofs.Imports.{ℕ, ◌<◌, ◌≤◌, List, [], length, get_or, Option, Some, None, indices, Span, PathStep, kinds_of, holds_by, hold_at, place_in, Sentence, Value, Assignment, KernelText, TermText, kernel_fault, actor_of, shared_byte, updated_rows, updated_of, Table, owners_of, answer_of, kept_of, AreRows, header_of, HoldsBits, World, updated_by_actors, fit_cuts, shared, assigned, inside, kernel_run, fit_kernel, kernel_row_fault, leaf_of, bound, bound_filter, bound_sets, each_once, leaves_of, text_of_leaf, Done, Work, refused_if, refused_by, ok_or, small, work_of, live_bits, updated, update_fault, value_on, storable, Cuts, Turns, BadActors, IfGoes, to, bind, IsSavable, content_of, Shows, Changes, does, OnView, kept_by, answer_by, fit_stencil, room_beside, stencil_fault, stencil_run, ◌^◌, not, nat_lt, store_fault, stenciled, rounds_keep}
use Rattle.worlds.specs.Prelude.{Reads}
use Rattle.line_grammar.specs.Sentences as line
use Rattle.line_grammar.specs.declared.line.ShowKind.TheVariants as show
use Rattle.saved_runs.proofs.Went.{answered}
use Rattle.saved_runs.proofs.Rows.{entry_rows, answered_stays, taken_stays}
use Rattle.saved_runs.proofs.Changes.{update_stays, kernel_stays}
use Rattle.saved_runs.proofs.Worlds.{uncaused}

-- what is to be shown of a command: nothing, where it stores nothing
abbrev pub WorkKeeps : Table → Work → Type 0
WorkKeeps table (Reads command) = Unit {0}
WorkKeeps table (Shows command) = Unit {0}
WorkKeeps table (Changes command) = IfGoes (λ (done : Done). AreRows (header_of table) done.rows) (command table)

abbrev pub LineKeeps : Table → Option OnView → Type 0
LineKeeps table None = Unit {0}
LineKeeps table (Some line) = WorkKeeps table line.work

module _ (holds_bits : HoldsBits) (table : Table) (good : IsSavable table) where
  -- the rows that a command leaves are such
  abbrev Keeps : Done → Type 0
  Keeps done = AreRows (header_of table) done.rows

  pub does_keep : (work : Work) → WorkKeeps table work → IfGoes Keeps (does work table)
  does_keep (Reads command) keeps = bind Keeps (command (content_of table)) _ (λ told a. to _ good.rows)
  does_keep (Shows command) keeps = bind Keeps (command table) _ (λ told a. to _ good.rows)
  does_keep (Changes command) keeps = keeps

  wide : (leaf : ℕ) → leaf < length (kinds_of table.fields) → 1 ≤ (hold_at (holds_by table.mapping table.fields) leaf).width
  wide leaf l = holds_bits (header_of table) leaf good.lines good.lies l

  assigned_keeps : (index : List ℕ) (path : List PathStep) (value : Value) → IfGoes Keeps (assigned table index path value)
  unfolding assigned
  assigned_keeps index path value =
      bind Keeps (leaf_of table.fields path) _ (λ leaf a.
      bind Keeps (bound table.fields (length table.extents) value) _ (λ term b.
      bind Keeps (inside table.extents index) _ (λ is_inside c.
      (let row : ℕ = place_in (indices table.extents) index in
      bind Keeps (value_on row (get_or table.rows row []) index term) _ (λ number d.
      bind Keeps (storable table row leaf number) _ (λ kept e.
      to _ (entry_rows (header_of table) table.rows row leaf kept good.rows
      (λ l. answered_stays (header_of table) wide leaf number kept l (answered (store_fault row (text_of_leaf table.fields leaf)) (answer_of table leaf number) kept e)))))))))

  updated_keeps : (filter : Option Value) (sets : List Assignment) → IfGoes Keeps (updated table filter sets)
  unfolding updated
  updated_keeps filter sets =
      bind Keeps (bound_filter table.fields (length table.extents) filter) _ (λ test a.
      bind Keeps (bound_sets table.fields (length table.extents) sets) _ (λ settings b.
      bind Keeps (each_once table.fields [] (leaves_of settings)) _ (λ once c.
      bind Keeps (ok_or (update_fault table.fields) (updated_rows (answer_of table) (kept_of table) test settings table.extents table.rows (length table.rows))) _ (λ rows d.
      to _ (update_stays (header_of table) wide test settings table.extents table.rows rows good.rows (answered (update_fault table.fields) _ rows d))))))

  -- the rows are those of the plain update
  by_actors_keeps : (filter : Option Value) (sets : List Assignment) (cuts : List ℕ) (seed turns : ℕ) → IfGoes Keeps (updated_by_actors table filter sets cuts seed turns)
  unfolding updated_by_actors
  by_actors_keeps filter sets cuts seed turns =
      bind Keeps (bound_filter table.fields (length table.extents) filter) _ (λ test a.
      bind Keeps (bound_sets table.fields (length table.extents) sets) _ (λ settings b.
      bind Keeps (each_once table.fields [] (leaves_of settings)) _ (λ once c.
      bind Keeps (refused_if (not (fit_cuts cuts (length table.rows))) (BadActors Cuts)) _ (λ fit d.
      bind Keeps (refused_if (nat_lt (2 ^ 20) turns) (BadActors Turns)) _ (λ few e.
      bind Keeps (small table) _ (λ shown f.
      bind Keeps (refused_by shared (shared_byte (owners_of table) (actor_of cuts))) _ (λ apart g.
      bind Keeps (ok_or (update_fault table.fields) (updated_of table test settings (length table.rows))) _ (λ rows h.
      to _ (update_stays (header_of table) wide test settings table.extents table.rows rows good.rows (answered (update_fault table.fields) _ rows h))))))))))

  kernel_keeps : (text : KernelText) (lanes : ℕ) → IfGoes Keeps (kernel_run table text lanes)
  unfolding kernel_run
  kernel_keeps text lanes =
      bind Keeps (fit_kernel table.fields text lanes) _ (λ kernel a.
      bind Keeps (refused_by (kernel_row_fault table.fields) (kernel_fault (answer_of table) kernel table.rows)) _ (λ done b.
      to _ (kernel_stays (header_of table) wide kernel table.rows good.rows (uncaused (kernel_row_fault table.fields) (kernel_fault (answer_of table) kernel table.rows) done b))))

  stencil_keeps : (live : ℕ) (spans : List Span) (path : List PathStep) (terms : List TermText) (divisor rounds : ℕ) → IfGoes Keeps (stencil_run live table spans path terms divisor rounds)
  unfolding stencil_run
  stencil_keeps live spans path terms divisor rounds =
      bind Keeps (fit_stencil table spans path terms divisor rounds) _ (λ stencil a.
      bind Keeps (room_beside live table) _ (λ room b.
      bind Keeps (ok_or (stencil_fault table.fields stencil.leaf) (stenciled table stencil rounds)) _ (λ rows c.
      to _ (rounds_keep (answer_by (header_of table)) stencil (AreRows (header_of table))
      (λ old row value taken are. entry_rows (header_of table) old row stencil.leaf (kept_by (answer_by (header_of table)) stencil.leaf value) are (λ l. taken_stays (header_of table) wide stencil.leaf value l taken))
      rounds table.rows rows good.rows (answered (stencil_fault table.fields stencil.leaf) _ rows c)))))

  -- a line that stores nothing has no arm of its own
  pub line_keeps : (world : World) (sentence : Sentence) → LineKeeps table (work_of world sentence)
  line_keeps world (line.Assign name index path value) = assigned_keeps index path value
  line_keeps world (line.Update name filter sets) = updated_keeps filter sets
  line_keeps world (line.Actors name filter sets cuts seed turns) = by_actors_keeps filter sets cuts seed turns
  line_keeps world (line.Kernel name text lanes) = kernel_keeps text lanes
  line_keeps world (line.Stencil name spans path terms divisor rounds) = stencil_keeps (live_bits world.views) spans path terms divisor rounds
  line_keeps world (line.Show show.Print name) = tt
  line_keeps world sentence = tt
