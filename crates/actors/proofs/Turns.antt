-- A turn of one actor.
use Rattle.actors.proofs.Imports.{leaf_count, ◌≡◌, ℕ, ◌+◌, ◌<◌, ◌≤◌, Bool, true, false, All, ℤ, List, [], ◌∷◌, ◌++◌, length, map, get_or, set, take, Option, None, refl, sym, ap, ◌∙◌, arith, length-map, get_or-map, map-set, set-get_or, take_more, Term, Owner, Assign, Setting, setting_of, IsSetOf, Table, owners_of, leaf_count_of, Tally, Place, IsLawful, job_of, Job, Micro, Registers, row_in, value_kept_on, with_byte, with_bits_of, stored, loaded, Actor, State, moved, idle_with, run_by, Asks, AreRowsOf, Standing, Bytes, Cursor, Step, ArePlans, asks_at, IsReached, after_both, Run, without_counts, started_run, after_turns, has_any, IsCursor, IsStanding, IsTurn, set_at, cursor_steps, step_shown, bytes_shown, actor_shown, state_shown}
use Rattle.actors.specs.declared.step.Step.TheVariants as step

-- the set of a number, by the assignment of the code
set_is : (table : Table) (sets : List Assign) (n : ℕ) (set : Assign) → n < length sets → set ≡ get_or sets n set → set_at (job_of table None (map setting_of sets)) n ≡ setting_of set
set_is table sets n set low is = grind (arith, get_or-map)

-- a byte that is stored with the bits of a leaf changed
pub store_made : (table : Table) (sets : List Assign) (made : Step) (place : Place) (row n : ℕ) (set : Assign) (memory new : List (List ℕ)) (bytes : Bytes) (layout : List (List Owner)) (value : ℤ) (byte : ℕ)
    → made ≡ step.Store place row n → n < length sets → set ≡ get_or sets n set → layout ≡ owners_of table
    → value ≡ value_kept_on (job_of table None []) (row_in (job_of table None []) bytes.loaded.items row) row (setting_of set)
    → byte ≡ with_bits_of layout place row set.leaf value bytes.byte → new ≡ with_byte memory place byte
    → new ≡ stored (job_of table None (map setting_of sets)) (step_shown (job_of table None (map setting_of sets)) made) memory (bytes_shown bytes)
store_made table sets made place row n set memory new bytes layout value byte is low set_at_is layout_is value_is byte_is new_is =
    let job = job_of table None (map setting_of sets) in
    let one : Setting = setting_of set in
    let of_set : Setting → List (List ℕ) = λ s. with_byte memory place (with_bits_of (owners_of table) place row s.leaf (value_kept_on job (row_in job bytes.loaded.items row) row s) bytes.byte) in
    new_is
    ∙ ap (with_byte memory place)
    (grind arith)
    ∙ ap of_set (sym (set_is table sets n set low set_at_is))
    ∙ ap (λ (s : Step). stored job (step_shown job s) memory (bytes_shown bytes)) (sym is)

-- the same cursor over the same rows and leaves
pub cursor_over : (cursor : Cursor) (sets : ℕ) (layout layout' : List (List Owner)) (rows rows' leaves leaves' : ℕ) → layout ≡ layout' → rows ≡ rows' → leaves ≡ leaves'
    → IsCursor layout rows leaves sets cursor → IsCursor layout' rows' leaves' sets cursor
cursor_over cursor sets layout layout' rows rows' leaves leaves' layout_is rows_are leaves_are is = grind arith

-- the leaves that are set are leaves of the table
pub targets_inside : (table : Table) (sets : List Assign) (targets : List ℕ) (leaves : ℕ) → targets ≡ map (λ set. set.leaf) sets → All (IsSetOf table) sets → leaf_count_of table ≡ leaves
    → All (λ leaf. leaf < leaves) targets
targets_inside table sets targets leaves are inside count k d low =
    let leaf_at : Assign → ℕ = λ set. set.leaf in
    let in_sets : k < length sets = omega (arith, low, ap length are, length-map sets leaf_at) in
    let d' = some_set sets k in_sets in
    let at : get_or targets k d ≡ (get_or sets k d').leaf = ap (λ (w : List ℕ). get_or w k d) are ∙ get_or-map leaf_at sets k d' d in_sets in
    omega (arith, at, (inside k d' in_sets).inside, count) where
      some_set : (sets : List Assign) (n : ℕ) → n < length sets → Assign
      some_set [] n low = absurd (omega (arith, low))
      some_set (set ∷ sets) n low = set

set_leaves : (sets : List Assign) → map (λ set. set.leaf) (map setting_of sets) ≡ map (λ set. set.leaf) sets
set_leaves [] = refl
set_leaves (set ∷ sets) = ap (λ (w : List ℕ). set.leaf ∷ w) (set_leaves sets)

-- plans of all rows are what the rows ask for
pub plans_told : (table : Table) (lawful : IsLawful table) (filter : Option (Term ℕ)) (sets : List Assign) (targets : List ℕ) (plans : List Asks) (layout : List (List Owner)) (leaves end : ℕ)
    → ArePlans (job_of table filter (map setting_of sets)) (length table.rows) plans → targets ≡ map (λ set. set.leaf) sets → layout ≡ owners_of table → leaves ≡ leaf_count_of table
    → leaf_count_of table ≤ 64 → end ≤ length table.rows → AreRowsOf (job_of table filter (map setting_of sets)) layout leaves targets (asks_at plans) end
plans_told table lawful filter sets targets plans layout leaves end are targets_are layout_is leaves_are few inside = record {
  each = λ row low.
      (let plan = are.each row (record { reads = []; through = false }) (omega (arith, low, inside)) in
      record {
        layout_is = sym layout_is;
        leaves_are = lawful.paired ∙ sym (leaf_count table) ∙ sym leaves_are;
        sets_are = set_leaves sets ∙ sym targets_are;
        asked_are = λ leaf small. plan.asked leaf (omega (arith, small, leaves_are, few));
        through_is = plan.through;
      });
}

-- one leaf more that is set
pub one_target : (sets : List Assign) (n : ℕ) (set : Assign) (targets : List ℕ) → n < length sets → set ≡ get_or sets n set → targets ≡ take n (map (λ one. one.leaf) sets)
    → targets ++ set.leaf ∷ [] ≡ take (n + 1) (map (λ one. one.leaf) sets)
one_target sets n set targets low is so_far =
    let leaf_at : Assign → ℕ = λ one. one.leaf in
    let at : get_or (map leaf_at sets) n 0 ≡ set.leaf = get_or-map leaf_at sets n set 0 low ∙ ap leaf_at (sym is) in
    grind (arith, take_more, length-map)

module _ (job : Job) (fresh : Registers) (memory after : List (List ℕ)) (actors : List Standing) (a : ℕ) (old new : Standing) (low : a < length actors) (is : old ≡ get_or actors a old) where
  here : get_or (map (actor_shown job) actors) a (idle_with fresh) ≡ actor_shown job old
  here = get_or-map (actor_shown job) actors a old (idle_with fresh) low ∙ ap (actor_shown job) (sym is)

  abbrev registers : Registers
  registers = bytes_shown old.bytes

  -- nothing changes where nothing is left
  same_actors : actor_shown job new ≡ actor_shown job old → map (actor_shown job) (set actors a new) ≡ map (actor_shown job) actors
  same_actors e =
      map-set (actor_shown job) actors a new ∙ ap (λ (x : Actor Micro Registers). set (map (actor_shown job) actors) a x) (e ∙ ap (actor_shown job) is)
      ∙ sym (map-set (actor_shown job) actors a (get_or actors a old)) ∙ ap (map (actor_shown job)) (set-get_or actors a old)

  abbrev before : State (List (List ℕ)) Micro Registers
  before = state_shown job memory actors

  pub not_made : IsTurn job memory old false after new → state_shown job after (set actors a new) ≡ before
  not_made turn = grind (arith, same_actors)

  -- a turn is one of the definition
  pub turned_state : (made : Bool) → IsTurn job memory old made after new → run_by job fresh (a ∷ []) before ≡ state_shown job after (set actors a new)
  turned_state made turn =
      ap (λ (x : Actor Micro Registers). moved (stored job) (loaded job) x.rest x.registers a before) here ∙ by_made made turn where
        by_made : (made : Bool) → IsTurn job memory old made after new → moved (stored job) (loaded job) (cursor_steps job old.cursor) registers a before ≡ state_shown job after (set actors a new)
        by_made false none = ap (λ (rest : List Micro). moved (stored job) (loaded job) rest registers a before) none.0 ∙ sym (not_made none)
        by_made true one =
            ap (λ (rest : List Micro). moved (stored job) (loaded job) rest registers a before) one.1
            ∙ ap (λ (m : List (List ℕ)). record {
              memory = m;
              actors = set (map (actor_shown job) actors) a (record { rest = cursor_steps job new.cursor; registers = loaded job one.0 memory registers });
            }) (sym one.2)
            ∙ ap (λ (r : Registers). record { memory = after; actors = set (map (actor_shown job) actors) a (record { rest = cursor_steps job new.cursor; registers = r }) }) (sym one.3)
            ∙ ap (λ (ones : List (Actor Micro Registers)). record { memory = after; actors = ones }) (sym (map-set (actor_shown job) actors a new))

  -- it tells whether there was one
  pub made_any : (made : Bool) → IsTurn job memory old made after new → made ≡ has_any (get_or (map (actor_shown job) actors) a (idle_with fresh)).rest
  made_any made turn = by_made made turn ∙ ap (λ (x : Actor Micro Registers). has_any x.rest) (sym here) where
    by_made : (made : Bool) → IsTurn job memory old made after new → made ≡ has_any (cursor_steps job old.cursor)
    by_made false none = ap has_any (sym none.0)
    by_made true one = ap has_any (sym one.1)

-- facts of a table without its counts
pub stands_alone : (table : Table) (sets : ℕ) (actor : Standing) → IsStanding table sets actor → IsStanding (without_counts table) sets actor
stands_alone table sets actor is = record { cursor = is.cursor; loaded = is.loaded }

pub stands_counted : (table : Table) (tally : Tally) (sets : ℕ) (actor : Standing) → IsStanding (record table { tally = tally }) sets actor → IsStanding table sets actor
stands_counted table tally sets actor is = record { cursor = is.cursor; loaded = is.loaded }

pub set_alone : (table : Table) (set : Assign) → IsSetOf table set → IsSetOf (without_counts table) set
set_alone table set is = record { inside = is.inside; over = record { leaves = is.over.leaves; rank = is.over.rank } }

pub lawful_alone : (table : Table) → IsLawful table → IsLawful (without_counts table)
lawful_alone table is = grind arith

-- one turn more is reached as well
pub reached_more : (run : Run) (a : ℕ) (new : Run) → IsReached run → new ≡ after_turns run (a ∷ []) → IsReached new
reached_more run a new reached is =
    let start : Run → Run = λ r. started_run r.found r.filter r.sets r.cuts in
    let same : start new ≡ start run = ap start is in (
      reached.0 ++ a ∷ [],
      is ∙ ap (λ (r : Run). after_turns r (a ∷ [])) reached.1 ∙ after_both (start run) reached.0 (a ∷ []) ∙ ap (λ (r : Run). after_turns r (reached.0 ++ a ∷ [])) (sym same),
    )
