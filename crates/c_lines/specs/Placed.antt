-- Where the numbers of a leaf lie, as a call answers it.
use Rattle.std.specs.Prelude.{◌≡◌, ◌<◌, ◌≤◌}
use Rattle.c_lines.specs.Imports.{ℕ, Ok, Err, ArePlacesOf, IsDirect, MustTell, Places, Table, leaf_count_of}
use Rattle.c_lines.specs.Answers.{Answer}
use Rattle.c_lines.specs.declared.refusal.Refusal.{Refusal}
use Rattle.c_lines.specs.declared.refusal.Refusal.TheVariants.{NoPlace, Irregular}

-- why none are told: there is no such leaf, or none of it have to be told
pub record IsUnplaced (leaf : ℕ) (table : Table) (refused : Refusal) : Type 0 where
  pub outside : leaf_count_of table ≤ leaf → refused ≡ NoPlace
  pub inside : leaf < leaf_count_of table → (refused ≡ Irregular leaf) × (MustTell leaf table → ⊥)

-- what may be answered of a leaf
abbrev pub TellsPlaces : ℕ → Table → Answer Places → Type 0
TellsPlaces leaf table (Ok places) = IsDirect leaf table × ArePlacesOf leaf table places
TellsPlaces leaf table (Err refused) = IsUnplaced leaf table refused
