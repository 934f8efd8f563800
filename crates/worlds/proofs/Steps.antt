-- The texts of the steps of a path.
use Rattle.worlds.proofs.Imports.{◌≡◌, ℕ, ◌^◌, ◌-◌, ◌<◌, ◌≤◌, List, [], ◌∷◌, ◌++◌, length, take, drop, get_or, flat_map, ap, arith, take_rest, digits_text, decimal-digits_text, first_text, step_text, path_text_of, PathStep, At}

-- the number of an element in brackets
pub number_step : (number : ℕ) → number < 2 ^ 32 → step_text (At number) ≡ 91 ∷ (digits_text number ++ 93 ∷ [])
number_step number small = ap (λ (digits : List ℕ). 91 ∷ (digits ++ 93 ∷ [])) (decimal-digits_text number (omega (arith, small)))

-- the text of a path is that of its first step and those of the others
pub path_parts : (path : List PathStep) (first : PathStep) → first ≡ get_or path 0 first → 1 ≤ length path →
    first_text first ++ flat_map step_text (take (length path - 1) (drop 1 path)) ≡ path_text_of path
path_parts [] first is some = absurd (omega (arith, some))
path_parts (step ∷ steps) first is some = rw take_rest (ap (λ s. first_text s ++ flat_map step_text steps) is)
