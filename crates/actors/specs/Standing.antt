-- Where an actor stands, as the code has it, and what it does next.
use Rattle.std.specs.Prelude.{ℕ, ◌≡◌, ◌+◌, ◌-◌, ◌<◌, ◌≤◌, pos, Bool, true, false, List, [], ◌∷◌, ◌++◌, length, map, slice_index_or, Option, Some, None}
use Rattle.actors.specs.Imports.{Number, Owner, AreSized, Table, owners_of, leaf_count_of, Setting, Place, IsByte, Actor, State, fresh_of, Job, Micro, Fetch, Load, Store, Registers, stored, loaded, task_at, origin, byte_behind, Task, Reads, Sets, left_in}
use Rattle.actors.specs.declared.step.Cursor.{Cursor}
use Rattle.actors.specs.declared.step.Step.{Step}
use Rattle.actors.specs.declared.step.Step.TheVariants as step
use Rattle.actors.specs.declared.actor.Bytes.{Bytes}
use Rattle.actors.specs.declared.actor.Actor.{Actor as Standing}

-- the store of a byte that was loaded to be changed
abbrev pub store_of : ℕ → Place → Task → List Micro
store_of row place (Reads leaf) = []
store_of row place (Sets set) = Store place row set ∷ []

-- what is left from a cursor on: the store comes first, where its byte is loaded
abbrev pub steps_left_at : Job → Cursor → Bool → List Micro
steps_left_at job cursor false = left_in job cursor.row (cursor.end - cursor.row) cursor.done cursor.from
steps_left_at job cursor true =
    store_of cursor.row cursor.from (task_at job cursor.done) ++ left_in job cursor.row (cursor.end - cursor.row) cursor.done (byte_behind cursor.from)

abbrev pub cursor_steps : Job → Cursor → List Micro
cursor_steps job cursor = steps_left_at job cursor cursor.half

-- where a cursor may stand, over so many rows, leaves and leaves that are set
pub record IsCursor (layout : List (List Owner)) (rows leaves sets : ℕ) (cursor : Cursor) : Type 0 where
  pub rows_in : cursor.end ≤ rows
  pub done_in : cursor.done ≤ leaves + sets
  pub half_from : cursor.half ≡ true → leaves ≤ cursor.done
  pub half_in : cursor.half ≡ true → cursor.done < leaves + sets
  pub half_row : cursor.half ≡ true → cursor.row < cursor.end
  pub half_byte : cursor.half ≡ true → IsByte layout cursor.from

-- the set of this number
abbrev pub set_at : Job → ℕ → Setting
set_at job number = slice_index_or job.sets number (record { leaf = 0; value = Number (pos 0) })

-- a micro-step of the code
abbrev pub step_shown : Job → Step → Micro
step_shown job (step.Fetch place) = Fetch place
step_shown job (step.Load place) = Load place
step_shown job (step.Store place row set) = Store place row (set_at job set)

-- it is at a byte, and a store is one of a row and a set that are there
abbrev pub IsStepOf : List (List Owner) → ℕ → ℕ → Step → Type 0
IsStepOf layout rows sets (step.Fetch place) = IsByte layout place
IsStepOf layout rows sets (step.Load place) = IsByte layout place
IsStepOf layout rows sets (step.Store place row set) = IsByte layout place × (row < rows) × (set < sets)

-- the next micro-step of a cursor, and the cursor behind it; where none is left, there is none from there on either
abbrev pub IsStepNext : Job → Cursor → Option Step → Cursor → Type 0
IsStepNext job old None new = (cursor_steps job old ≡ []) × (cursor_steps job new ≡ [])
IsStepNext job old (Some step) new = cursor_steps job old ≡ step_shown job step ∷ cursor_steps job new

-- the registers of an actor, and all of it by what it has left
abbrev pub bytes_shown : Bytes → Registers
bytes_shown bytes = record { loaded = bytes.loaded.items; byte = bytes.byte }

abbrev pub actor_shown : Job → Standing → Actor Micro Registers
actor_shown job actor = record { rest = cursor_steps job actor.cursor; registers = bytes_shown actor.bytes }

abbrev pub state_shown : Job → List (List ℕ) → List Standing → State (List (List ℕ)) Micro Registers
state_shown job memory actors = record { memory = memory; actors = map (actor_shown job) actors }

-- where an actor may stand over a table, and so many leaves that are set
pub record IsStanding (table : Table) (sets : ℕ) (actor : Standing) : Type 0 where
  pub cursor : IsCursor (owners_of table) (length table.rows) (leaf_count_of table) sets actor.cursor
  pub loaded : AreSized (owners_of table) actor.bytes.loaded.items

-- an actor at the start of the rows from one up to, and without, an end
pub record IsFresh (table : Table) (row end : ℕ) (actor : Standing) : Type 0 where
  pub cursor : actor.cursor ≡ record { row = row; end = end; done = 0; from = origin; half = false }
  pub loaded : actor.bytes.loaded.items ≡ (fresh_of table).loaded
  pub byte : actor.bytes.byte ≡ 0

-- what a turn makes of memory and of an actor
abbrev pub IsTurn : Job → List (List ℕ) → Standing → Bool → List (List ℕ) → Standing → Type 0
IsTurn job memory actor false after new = (cursor_steps job actor.cursor ≡ []) × (after ≡ memory) × (actor_shown job new ≡ actor_shown job actor)
IsTurn job memory actor true after new = (micro : Micro) × (cursor_steps job actor.cursor ≡ micro ∷ cursor_steps job new.cursor)
    × (after ≡ stored job micro memory (bytes_shown actor.bytes)) × (bytes_shown new.bytes ≡ loaded job micro memory (bytes_shown actor.bytes))
