-- Tables of the places of names in a list.
use Rattle.std.specs.Prelude.{ℕ, ◌≡◌, List, Option}
use Rattle.command_checks.specs.Imports.{BTreeMap, get, slice_cmp, nat_cmp, Entry, same_name, position_from}

-- the place that a table has under a name
abbrev pub place_in : BTreeMap (List ℕ) ℕ → List ℕ → Option ℕ
place_in places name = get (slice_cmp nat_cmp) places name

-- a table has the place of the first entry of each name, and no other name
abbrev pub IsIndex : {E A : Type 0} → (E → Entry A) → List E → BTreeMap (List ℕ) ℕ → Type 0
IsIndex entry_of entries places = (name : List ℕ) → place_in places name ≡ position_from (λ entry. same_name (entry_of entry).name name) 0 entries
