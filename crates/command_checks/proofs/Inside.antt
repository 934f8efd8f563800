-- Spans that are a window.
use Rattle.command_checks.proofs.Imports.{◌≡◌, ℕ, true, List, [], ◌∷◌, refl, le-leb, Span, IsWindow, are_inside, windowed, Ok, arith}

inside_true : (extents : List ℕ) (spans : List Span) → IsWindow extents spans → are_inside extents spans ≡ true
inside_true [] [] is = refl
inside_true (extent ∷ extents) (span ∷ spans) is = grind (arith, le-leb, (inside_true extents spans is.1))
inside_true extents spans is = absurd is

pub windowed_goes : (extents : List ℕ) (spans : List Span) → IsWindow extents spans → windowed extents spans ≡ Ok (extents, spans)
windowed_goes extents spans is = rw (inside_true extents spans is) refl
