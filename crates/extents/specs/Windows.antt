-- Windows of an array: the indices whose components lie in a span for each dimension.
use Rattle.std.specs.Prelude.{ℕ, ◌+◌, ◌-◌, ◌≤◌, ◌&&◌, Bool, true, false, nat_le, nat_lt, List, [], ◌∷◌, map, filter}
use Rattle.std.specs.List.{enumerate_from, AllZip}
use Rattle.extents.specs.Indices.{indices}
pub use Rattle.extents.specs.declared.window.Span.{Span}

-- a span for each extent, inside it
abbrev pub IsWindow : List ℕ → List Span → Type 0
IsWindow extents spans = AllZip (λ span extent. (span.from ≤ span.end) × (span.end ≤ extent)) spans extents

-- whether a window holds an index
abbrev pub holds : List Span → List ℕ → Bool
holds [] [] = true
holds (span ∷ spans) (i ∷ index) = (nat_le span.from i && nat_lt i span.end) && holds spans index
holds _ _ = false

-- the rows whose index a window holds, in their order
abbrev pub rows_in : List ℕ → List Span → List ℕ
rows_in extents spans = map (λ e. e.0) (filter (λ e. holds spans e.1) (enumerate_from 0 (indices extents)))

-- the indices that it holds, in the order of rows
abbrev pub held : List ℕ → List Span → List (List ℕ)
held extents spans = filter (holds spans) (indices extents)

-- the extents of a window as an array of its own, and an index of that array as one of the whole
abbrev pub sizes : List Span → List ℕ
sizes spans = map (λ span. span.end - span.from) spans

abbrev pub moved : List Span → List ℕ → List ℕ
moved [] index = []
moved (span ∷ spans) [] = []
moved (span ∷ spans) (i ∷ index) = (span.from + i) ∷ moved spans index
