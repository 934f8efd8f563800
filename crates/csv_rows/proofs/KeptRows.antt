-- What is kept of the values of a row, one value more.
use Rattle.csv_rows.proofs.Imports.{◌≡◌, ℕ, zero, suc, ◌+◌, ℤ, List, [], ◌∷◌, length, map, set, refl, ap, ◌∙◌, arith, enumerate_from, length-map, length-enumerate_from, Keeping, kept_row}

-- the same of leaves from this one on
abbrev kept_from : Keeping → ℕ → List ℤ → List ℤ
kept_from keep leaf values = map (λ (v : ℕ × ℤ). keep v.0 v.1) (enumerate_from leaf values)

from_set : (keep : Keeping) (leaf : ℕ) (values : List ℤ) (i : ℕ) (value : ℤ) → kept_from keep leaf (set values i value) ≡ set (kept_from keep leaf values) i (keep (leaf + i) value)
from_set keep leaf [] zero value = refl
from_set keep leaf [] (suc i) value = refl
from_set keep leaf (first ∷ values) zero value = grind arith
from_set keep leaf (first ∷ values) (suc i) value = grind (arith, (from_set keep (leaf + 1) values i value))

pub kept_set : (keep : Keeping) (values : List ℤ) (leaf : ℕ) (value : ℤ) → kept_row keep (set values leaf value) ≡ set (kept_row keep values) leaf (keep leaf value)
kept_set keep values leaf value =
    let same : 0 + leaf ≡ leaf = omega arith in
    from_set keep 0 values leaf value ∙ ap (λ (n : ℕ). set (kept_row keep values) leaf (keep n value)) same

pub length-kept_row : (keep : Keeping) (values : List ℤ) → length (kept_row keep values) ≡ length values
length-kept_row keep values = length-map (enumerate_from 0 values) (λ (v : ℕ × ℤ). keep v.0 v.1) ∙ length-enumerate_from 0 values
