-- How the table of one mapping is copied into that of another.
use Rattle.std.specs.Prelude.{◌≡◌}
use Rattle.map_any.specs.Imports.{IsSomeAnd, Term, uncounted, array_of}
use Rattle.map_any.specs.declared.strategy.Strategy.{Strategy}
use Rattle.map_any.specs.declared.strategy.Strategy.TheVariants.{Blobs, Runs, Fields}

-- in both the leaves lie in arrays, and the slots of both are in one order
abbrev pub AreRuns : Term → Term → Type 0
AreRuns one two = IsSomeAnd (array_of one) (λ array. IsSomeAnd (array_of two) (λ other. array.0 ≡ other.0))

-- by whole blobs where the expressions are one, counters left out; else by runs where they can be; else field by field
abbrev pub IsStrategy : Term → Term → Strategy → Type 0
IsStrategy one two Blobs = uncounted one ≡ uncounted two
IsStrategy one two Runs = (uncounted one ≡ uncounted two → ⊥) × AreRuns one two
IsStrategy one two Fields = (uncounted one ≡ uncounted two → ⊥) × (AreRuns one two → ⊥)
