-- The leaves of a pass, path by path.
use Rattle.command_checks.proofs.Imports.{◌≡◌, ℕ, ◌+◌, ◌-◌, ◌<◌, ◌≤◌, List, [], ◌∷◌, ◌++◌, length, take, get_or, append_assoc, refl, sym, ap, ◌∙◌, arith, range_with_len, append-nil, flat_map-append, joined, Fields, PathStep, leaves_at, leaves_under, ◌>>=◌, each, GivesUp, GivesUp-then, StepFault, Ok, Err, Tested, range_cut}
use Rattle.command_checks.proofs.Each.{each_more, each_ends}

-- a number more of a range
pub range_push : (numbers old after : List ℕ) (first number : ℕ) → first ≤ number → numbers ≡ old ++ range_with_len first (number - first) → after ≡ numbers ++ number ∷ []
    → after ≡ old ++ range_with_len first (number + 1 - first)
range_push numbers old after first number low so_far push =
    let n = number - first in
    let here : first + n ≡ number = omega (arith, low) in
    let next : n + 1 ≡ number + 1 - first = omega (arith, low) in
    push ∙ ap (λ (xs : List ℕ). xs ++ number ∷ []) so_far ∙ append_assoc old (range_with_len first n) (number ∷ [])
    ∙ ap (λ (k : ℕ). old ++ (range_with_len first n ++ k ∷ [])) (sym here) ∙ ap (λ (xs : List ℕ). old ++ xs) (sym (range_cut first n 1)) ∙ ap (λ (k : ℕ). old ++ range_with_len first k) next

-- the lists of paths that all name something
record AreUnder (lists : Tested (List (List ℕ))) (leaves : List ℕ) : Type 0 where
  all : List (List ℕ)
  are : lists ≡ Ok all
  leaves_are : leaves ≡ joined all

are_under : (lists : Tested (List (List ℕ))) (leaves : List ℕ) → (lists >>= (λ all. Ok (joined all))) ≡ Ok leaves → AreUnder lists leaves
are_under (Ok all) leaves is = record { all = all; are = refl; leaves_are = (let same : joined all ≡ leaves = cc in sym same) }
are_under (Err fault) leaves is = absurd (cc)

joined_push : (lists : List (List ℕ)) (more : List ℕ) → joined (lists ++ more ∷ []) ≡ joined lists ++ more
joined_push lists more = flat_map-append (λ (xs : List ℕ). xs) lists (more ∷ []) ∙ ap (λ (xs : List ℕ). joined lists ++ xs) (append-nil more)

-- one path more, and one that names nothing
pub under_more : (fields : Fields) (paths : List (List PathStep)) (i : ℕ) (d : List PathStep) (leaves more after : List ℕ) → i < length paths → leaves_under fields (take i paths) ≡ Ok leaves
    → leaves_at fields (get_or paths i d) ≡ Ok more → after ≡ leaves ++ more → leaves_under fields (take (i + 1) paths) ≡ Ok after
under_more fields paths i d leaves more after small so_far is push =
    let parts = are_under (each (leaves_at fields) (take i paths)) leaves so_far in
    let all : each (leaves_at fields) (take (i + 1) paths) ≡ Ok (parts.all ++ more ∷ []) = each_more (leaves_at fields) paths i d parts.all more small parts.are is in
    ap (λ (lists : Tested (List (List ℕ))). lists >>= (λ all. Ok (joined all))) all
    ∙ ap (λ (xs : List ℕ). Ok xs) (joined_push parts.all more ∙ ap (λ (xs : List ℕ). xs ++ more) (sym parts.leaves_are) ∙ sym push)

pub under_ends : (fields : Fields) (paths : List (List PathStep)) (i : ℕ) (d : List PathStep) (leaves : List ℕ) (fault : StepFault) → i < length paths → leaves_under fields (take i paths) ≡ Ok leaves
    → GivesUp (leaves_at fields (get_or paths i d)) fault → GivesUp (leaves_under fields paths) fault
under_ends fields paths i d leaves fault small so_far gives =
    let parts = are_under (each (leaves_at fields) (take i paths)) leaves so_far in
    GivesUp-then (each (leaves_at fields) paths) (λ all. Ok (joined all)) fault (each_ends (leaves_at fields) paths i d parts.all fault small parts.are gives)
