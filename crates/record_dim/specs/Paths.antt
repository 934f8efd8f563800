-- Paths: steps down a record, each to a field by its name or to an element by its number, and their texts.
use Rattle.std.specs.Prelude.{ℕ, List, [], ◌∷◌, ◌++◌, codes}
use Rattle.record_dim.specs.Std.{flat_map, decimal}
use Rattle.record_dim.specs.declared.path.PathStep.{PathStep}
use Rattle.record_dim.specs.declared.path.PathStep.TheVariants.{Name, At}

-- the first step is a name
abbrev pub BeginsWithName : List PathStep → Type 0
BeginsWithName [] = ⊥
BeginsWithName (Name name ∷ steps) = Unit {0}
BeginsWithName (At number ∷ steps) = ⊥

-- a later name stands behind a point, and a number in brackets
abbrev pub step_text : PathStep → List ℕ
step_text (Name name) = codes "." ++ name
step_text (At number) = codes "[" ++ decimal number ++ codes "]"

abbrev pub first_text : PathStep → List ℕ
first_text (Name name) = name
first_text (At number) = step_text (At number)

-- the text of a path, as `pos.x` and `h[2]`
abbrev pub path_text_of : List PathStep → List ℕ
path_text_of [] = []
path_text_of (first ∷ steps) = first_text first ++ flat_map step_text steps
