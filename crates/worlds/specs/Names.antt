-- The names, paths and indices of a command: the first that stands for nothing refuses it.
use Rattle.std.specs.Prelude.{◌∷◌, ◌++◌, if◌then◌else◌}
use Rattle.worlds.specs.Imports.{ℕ, List, [], map, nat_eq, Option, Some, None, Ok, Err, list_any, slice_get, slice_index_or, PathStep, paths_of, texts_of, Fields, Term, leaf_number, numbered, unknowns, BindFault, Value, Assignment, MapTerm, Split, Byteswap, Bytesplit, Change, Count, Heat, Named, Setting}
use Rattle.expr_lang.specs.declared.fault.BindFault.TheVariants as bind
use Rattle.worlds.specs.Worlds.{Entry}
use Rattle.worlds.specs.Outcomes.{Tested, ◌>>=◌, known, some_or, refused_by}
use Rattle.worlds.specs.declared.fault.CommandFault.{CommandFault}
use Rattle.worlds.specs.declared.fault.CommandFault.TheVariants.{Unknown, Twice, TooBig}
use Rattle.worlds.specs.declared.fault.UnknownName.TheVariants as unknown

-- a mapping expression with what its names stand for in their places; names from left to right
abbrev pub nameless : List (Entry MapTerm) → MapTerm → Tested MapTerm
nameless mappings (Split path first rest) = do
  a ← nameless mappings first
  b ← nameless mappings rest
  Ok (Split path a b)
nameless mappings (Byteswap inner) = do
  a ← nameless mappings inner
  Ok (Byteswap a)
nameless mappings (Bytesplit inner) = do
  a ← nameless mappings inner
  Ok (Bytesplit a)
nameless mappings (Change from to inner) = do
  a ← nameless mappings inner
  Ok (Change from to a)
nameless mappings (Count inner) = do
  a ← nameless mappings inner
  Ok (Count a)
nameless mappings (Heat granule inner) = do
  a ← nameless mappings inner
  Ok (Heat granule a)
nameless mappings (Named name) = known name mappings
nameless mappings base = Ok base

-- the number of the leaf of a path
abbrev pub leaf_of : Fields → List PathStep → Tested ℕ
leaf_of fields path = some_or (Unknown (unknown.Path path)) (leaf_number (paths_of fields) path)

-- the fault of a path or an index that names nothing; want of memory is none
abbrev pub bind_fault : BindFault → CommandFault
bind_fault (bind.UnknownPath path) = Unknown (unknown.Path path)
bind_fault (bind.UnknownIndex dimension) = Unknown (unknown.Index dimension)
bind_fault bind.NoMemory = TooBig

-- an expression with the number of its leaf in place of each path, over so many dimensions, where all of its paths and indices name
-- something; else the first that does not, from left to right
abbrev pub bound : Fields → ℕ → Value → Tested (Term ℕ)
bound fields rank value = do
  known ← refused_by bind_fault (slice_get (unknowns (paths_of fields) rank value) 0)
  Ok (numbered (paths_of fields) value)

-- the same of a filter that may be missing
abbrev pub bound_filter : Fields → ℕ → Option Value → Tested (Option (Term ℕ))
bound_filter fields rank None = Ok None
bound_filter fields rank (Some filter) = do
  a ← bound fields rank filter
  Ok (Some a)

-- the number of the leaf that is set, and its new value
abbrev pub bound_set : Fields → ℕ → Assignment → Tested Setting
bound_set fields rank set = do
  leaf ← leaf_of fields set.path
  value ← bound fields rank set.value
  Ok (record { leaf = leaf; value = value })

abbrev pub bound_sets : Fields → ℕ → List Assignment → Tested (List Setting)
bound_sets fields rank [] = Ok []
bound_sets fields rank (set ∷ sets) = do
  setting ← bound_set fields rank set
  settings ← bound_sets fields rank sets
  Ok (setting ∷ settings)

-- the path text of a leaf
abbrev pub text_of_leaf : Fields → ℕ → List ℕ
text_of_leaf fields leaf = slice_index_or (texts_of fields) leaf []

-- no leaf is set a second time; `before` are the leaves that were set so far
abbrev pub each_once : Fields → List ℕ → List ℕ → Tested (Unit {0})
each_once fields before [] = Ok tt
each_once fields before (leaf ∷ leaves) =
    if list_any (nat_eq leaf) before then Err (Twice (text_of_leaf fields leaf)) else each_once fields (before ++ leaf ∷ []) leaves

-- the leaves that are set
abbrev pub leaves_of : List Setting → List ℕ
leaves_of settings = map (λ setting. setting.leaf) settings
