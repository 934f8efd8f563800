-- What counters leave as it is.
use Rattle.std.specs.Prelude.{◌≡◌, ℕ, List, refl}
use Rattle.views.specs.Imports.{◌∙◌, Fields, Cell, Term, Count, Heat, uncounted, layout_of, holds_of, most_slots}

-- what no counter changes is that of the expression without the counters at its top
same_uncounted : {A : Type 0} (f : Term → A) → ((inner : Term) → f inner ≡ f (Count inner)) → ((granule : ℕ) (inner : Term) → f inner ≡ f (Heat granule inner))
    → (term : Term) → f (uncounted term) ≡ f term
same_uncounted f count heat (Count inner) = same_uncounted f count heat inner ∙ count inner
same_uncounted f count heat (Heat granule inner) = same_uncounted f count heat inner ∙ heat granule inner
same_uncounted f count heat other = refl

-- counters lay out nothing
pub layout_uncounted : (term : Term) (extents : List ℕ) (fields : Fields) (cells : List Cell) → layout_of (uncounted term) extents fields cells ≡ layout_of term extents fields cells
layout_uncounted term extents fields cells = same_uncounted (λ t. layout_of t extents fields cells) (λ inner. refl) (λ granule inner. refl) term

pub holds_uncounted : (term : Term) (fields : Fields) (cells : List Cell) → holds_of (uncounted term) fields cells ≡ holds_of term fields cells
holds_uncounted term fields cells = same_uncounted (λ t. holds_of t fields cells) (λ inner. refl) (λ granule inner. refl) term

pub slots_uncounted : (term : Term) (extents : List ℕ) → most_slots (uncounted term) extents ≡ most_slots term extents
slots_uncounted term extents = same_uncounted (λ t. most_slots t extents) (λ inner. refl) (λ granule inner. refl) term
