-- The deepest of several expressions.
use Rattle.schema_lang.proofs.Imports.{◌≡◌, ℕ, max, ◌&&◌, nat_le, List, ◌∷◌, map, arith, nat_tests, depth_of, term_of, SetText, assignment_of, deepest_set}

pub le-max : (a b k : ℕ) → nat_le (max a b) k ≡ (nat_le a k && nat_le b k)
le-max a b k = grind (arith, nat_tests)

pub low_first : (sets : List SetText) (set : SetText) → nat_le (deepest_set (map assignment_of (set ∷ sets))) 32 ≡ (nat_le (depth_of (term_of set.value)) 32 && nat_le (deepest_set (map assignment_of sets)) 32)
low_first sets set = le-max (depth_of (term_of set.value)) (deepest_set (map assignment_of sets)) 32
