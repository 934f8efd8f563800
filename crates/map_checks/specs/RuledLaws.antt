-- What holds of each item of a list, and of one more.
use Rattle.std.specs.Prelude.{◌≡◌, ℕ, List, [], ◌∷◌, ◌++◌, length}
use Rattle.map_checks.specs.Imports.{arith, length-append, get_or-append_seam, cases_lt, get_or_append_left}
use Rattle.map_checks.specs.Ruled.{EachWith}

-- one more item
pub each_push : {X : Type 0} (P : ℕ → X → Type 0) (xs ys : List X) (x : X) → ys ≡ xs ++ x ∷ [] → EachWith P xs → P (length xs) x → EachWith P ys
each_push {X} P xs ys x is each last = grind (arith, get_or_append_left, length-append, get_or-append_seam, cases_lt)
