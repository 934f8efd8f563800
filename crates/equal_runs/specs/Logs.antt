-- The accesses to each view of a run since it was made.
use Rattle.std.specs.Prelude.{◌+◌, ◌≡◌, ◌∷◌, ◌++◌}
use Rattle.equal_runs.specs.Imports.{ℕ, List, [], length, Option, Some, None, Ok, File, indices, Sentence, View, Load, Copy, Relayout, Drop, Open, Access, all_accesses, Read, Write, Table, leaf_count_of, World, Entry, empty, found, added, replaced, removed, Done, OnView, does, Tested, Goes, ◌>>=◌, Left, known, step, work_of, fails_at}

-- the accesses that are listed, and none where there is no list
abbrev pub log_in : Option (List Access) → List Access
log_in None = []
log_in (Some log) = log

-- more accesses to the view of this name, behind those that were
abbrev pub logged : List ℕ → List Access → List (Entry (List Access)) → List (Entry (List Access))
logged name more logs = replaced name (log_in (found name logs) ++ more) logs

-- one read, and one write, of each value in the rows of a table, and one write of each value that a table has room for
abbrev pub reads_of : Option Table → List Access
reads_of None = []
reads_of (Some table) = all_accesses Read (leaf_count_of table) (length table.rows)

abbrev pub writes_of : Option Table → List Access
writes_of None = []
writes_of (Some table) = all_accesses Write (leaf_count_of table) (length table.rows)

abbrev pub fills_of : Option Table → List Access
fills_of None = []
fills_of (Some table) = all_accesses Write (leaf_count_of table) (length (indices table.extents))

-- the accesses of what was done to a table
abbrev pub done_log : Tested Done → List Access
done_log (Ok done) = done.log
done_log _ = []

abbrev pub work_logs : World → Option OnView → List (Entry (List Access)) → List (Entry (List Access))
work_logs world None logs = logs
work_logs world (Some line) logs = logged line.view (done_log (known line.view world.views >>= does line.work)) logs

-- the accesses to each view after a line that takes one world to the next: a new view has none, that of a dataset and that of a blob file
-- have one write of each value, and one that is laid out anew begins with one write of each
abbrev pub logs_after : World → Sentence → World → List (Entry (List Access)) → List (Entry (List Access))
logs_after world (View new) next logs = added new.name [] logs
logs_after world (Load new file) next logs = added new.name (fills_of (found new.name next.views)) logs
logs_after world (Open name file) next logs = added name (fills_of (found name next.views)) logs
logs_after world (Copy name target) next logs = logged target (writes_of (found target next.views)) (logged name (reads_of (found name world.views)) logs)
logs_after world (Relayout name term) next logs = replaced name (writes_of (found name next.views)) logs
logs_after world (Drop name) next logs = removed name logs
logs_after world sentence next logs = work_logs world (work_of world sentence) logs

-- a run that came this far: its world, the accesses to each view, and what was written
pub record SoFar : Type 0 where
  pub world : World
  pub logs : List (Entry (List Access))
  pub text : List ℕ

abbrev pub at_first : SoFar
at_first = record { world = empty; logs = []; text = [] }

-- after a line that goes
abbrev pub one_more : SoFar → Sentence → Left → SoFar
one_more now line left = record { world = left.held; logs = logs_after now.world line left.held now.logs; text = now.text ++ left.text }

-- lines that all go take a run from one place to another; the first has this number, and reading fails at the line `unread`, if at any
pub data Comes (files : List File) (unread : Option ℕ) : ℕ → SoFar → List Sentence → SoFar → Type 0 where
  there : (number : ℕ) (now : SoFar) → Comes files unread number now [] now
  further : (number : ℕ) (now : SoFar) (line : Sentence) (left : Left) (lines : List Sentence) (last : SoFar) → step now.world line files (fails_at unread number) ≡ Goes left
      → Comes files unread (number + 1) (one_more now line left) lines last → Comes files unread number now (line ∷ lines) last

-- the accesses to the view of a name so far
abbrev pub log_of : SoFar → List ℕ → List Access
log_of now name = log_in (found name now.logs)
