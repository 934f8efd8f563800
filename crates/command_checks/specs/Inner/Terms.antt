-- Terms of a text that read known leaves.
use Rattle.std.specs.Prelude.{ℕ, List, [], ◌∷◌}
use Rattle.command_checks.specs.Imports.{TermText, Weighted}

-- a term of a text that reads this leaf, and terms that read these leaves
abbrev pub placed_term : TermText → ℕ → Weighted
placed_term text leaf = record { weight = text.weight; leaf = leaf; offsets = text.offsets }

abbrev pub weighted_at : List TermText → List ℕ → List Weighted
weighted_at (text ∷ texts) (leaf ∷ leaves) = placed_term text leaf ∷ weighted_at texts leaves
weighted_at _ _ = []
