-- Bytes that hold bits of rows of two actors.
use Rattle.std.specs.Prelude.{ℕ, ◌==◌, Bool, false, not, List, [], ◌∷◌, Option, Some, None, if◌then◌else◌}
use Rattle.actor_steps.specs.Imports.{list_any, Owner, Pad, Bit}
use Rattle.actor_steps.specs.Micro.{Place, all_bytes, owners_of_byte}

-- whether two bits are those of rows of two actors
abbrev pub are_of_two : (ℕ → ℕ) → Owner → Owner → Bool
are_of_two actor Pad other = false
are_of_two actor (Bit row leaf bit) Pad = false
are_of_two actor (Bit row leaf bit) (Bit row' leaf' bit') = not (actor row == actor row')

-- whether there are two such among some bits
abbrev pub is_shared : (ℕ → ℕ) → List Owner → Bool
is_shared actor owners = list_any (λ one. list_any (are_of_two actor one) owners) owners

-- the first of a list that meets a test
abbrev pub first_of_all : {X : Type 0} → (X → Bool) → List X → Option X
first_of_all test [] = None
first_of_all test (x ∷ xs) = if test x then Some x else first_of_all test xs

-- the first byte that is shared, by blob, then byte
abbrev pub shared_byte : List (List Owner) → (ℕ → ℕ) → Option Place
shared_byte layout actor = first_of_all (λ place. is_shared actor (owners_of_byte layout place)) (all_bytes layout)
