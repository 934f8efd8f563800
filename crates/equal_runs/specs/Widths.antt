-- The runs in which each line that lays a table out gives it room for all bits of each value, where it keeps low bits.
use Rattle.std.specs.Prelude.{◌+◌, ◌∷◌}
use Rattle.equal_runs.specs.Imports.{ℕ, ⊤, List, [], Option, IfSome, Ok, File, Sentence, View, Load, Relayout, IsWide, World, found, Outcome, Left, step, fails_at}

-- the table that a line makes with its mapping expression, if it keeps low bits, has room for all bits of the types of its leaves
abbrev pub MakesWide : Sentence → World → Type 0
MakesWide (View new) next = IfSome (found new.name next.views) IsWide
MakesWide (Load new file) next = IfSome (found new.name next.views) IsWide
MakesWide (Relayout name term) next = IfSome (found name next.views) IsWide
MakesWide line next = ⊤

-- it holds of the world that a line leaves, where the line goes
abbrev pub HoldsOf : Outcome Left → (World → Type 0) → Type 0
HoldsOf (Ok left) P = P left.held
HoldsOf _ P = ⊤

-- each such table of the run over these lines is so, the first of which has this number
abbrev pub StaysWide : List File → ℕ → World → List Sentence → Option ℕ → Type 0
StaysWide files number world [] unread = ⊤
StaysWide files number world (line ∷ lines) unread =
    HoldsOf (step world line files (fails_at unread number)) (λ next. MakesWide line next × StaysWide files (number + 1) next lines unread)
