-- Whether a term reads inside the array, dimension by dimension.
use Rattle.std.specs.Prelude.{ℕ, ◌&&◌, Bool, true, ℤ, pos, neg_ℤ, ◌-ℤ◌, int_le, List, ◌∷◌}
use Rattle.extents.specs.declared.window.Span.{Span}

-- so far away from a span nothing lies outside an extent
abbrev pub stays : ℕ → Span → ℤ → Bool
stays extent span offset = int_le (neg_ℤ (pos span.from)) offset && int_le offset (pos extent -ℤ pos span.end)

-- the same in each dimension
abbrev pub all_stay : List ℕ → List Span → List ℤ → Bool
all_stay (extent ∷ extents) (span ∷ spans) (offset ∷ offsets) = stays extent span offset && all_stay extents spans offsets
all_stay _ _ _ = true
