-- The runs that end with a fault of how their tables lie.
use Rattle.std.specs.Prelude.{◌+◌, ◌&&◌, ◌∷◌}
use Rattle.equal_runs.specs.Imports.{ℕ, Bool, true, false, is_some, List, [], Option, Ok, Err, File, Sentence, Mapping, View, Load, Relayout, Advise, World, found, Tested, Outcome, Fault, Unread, each, Left, nameless, step, fails_at, CommandFault, BadMapping, TooBig, Narrow, NotCounted, Unknown, Name}

-- it does not go
abbrev pub is_refused : {A : Type 0} → Tested A → Bool
is_refused (Ok x) = false
is_refused _ = true

-- some name in the mapping expressions of a line names no mapping, and the name before them, of a record or a view, is known
abbrev pub misses_mapping : World → Sentence → Bool
misses_mapping world (Mapping name term) = is_refused (nameless world.mappings term)
misses_mapping world (View new) = is_some (found new.schema world.records) && is_refused (nameless world.mappings new.term)
misses_mapping world (Load new file) = is_some (found new.schema world.records) && is_refused (nameless world.mappings new.term)
misses_mapping world (Relayout view term) = is_some (found view world.views) && is_refused (nameless world.mappings term)
misses_mapping world (Advise view granule passes terms splits) = is_some (found view world.views) && is_refused (each (nameless world.mappings) terms)
misses_mapping world line = false

-- a fault of how tables lie; that of a name is one where it `misses` a mapping
abbrev pub is_of_layout : Bool → CommandFault → Bool
is_of_layout misses (BadMapping bad) = true
is_of_layout misses TooBig = true
is_of_layout misses (Narrow row leaf) = true
is_of_layout misses NotCounted = true
is_of_layout misses (Unknown (Name name)) = misses
is_of_layout misses _ = false

-- what becomes of a run after the outcome of a line: such a fault ends it, or what comes later does
abbrev pub ends_after : Bool → Outcome Left → (World → Bool) → Bool
ends_after misses (Ok left) rest = rest left.held
ends_after misses (Err (Fault fault)) rest = is_of_layout misses fault
ends_after misses (Err (Unread name)) rest = false

-- the run over these lines, the first of which has this number, ends with a fault of how tables lie
abbrev pub ends_by_layout : List File → ℕ → World → List Sentence → Option ℕ → Bool
ends_by_layout files number world [] unread = false
ends_by_layout files number world (line ∷ lines) unread =
    ends_after (misses_mapping world line) (step world line files (fails_at unread number)) (λ next. ends_by_layout files (number + 1) next lines unread)
