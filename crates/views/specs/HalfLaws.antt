-- A list of which the front is new.
use Rattle.std.specs.Prelude.{◌≡◌, ℕ, ◌+◌, ◌-◌, ◌<◌, ◌≤◌, List, [], ◌∷◌, ◌++◌, length, take, drop, get_or, set}
use Rattle.views.specs.Imports.{append_assoc, append-nil, sym, ap, ◌∙◌, arith, take_all, drop_all, take_more, drop_more, length-take, set-append_right}

abbrev pub half : {A : Type 0} → List A → List A → ℕ → List A
half new old n = take n new ++ drop n old

pub half_more : {A : Type 0} (new old : List A) (n : ℕ) (d : A) → n < length new → length new ≡ length old → set (half new old n) n (get_or new n d) ≡ half new old (n + 1)
half_more {A} new old n d small same =
    let front : length (take n new) ≡ n = length-take n new ∙ omega arith in
    let rest : drop n old ≡ get_or old n d ∷ drop (n + 1) old = drop_more old n d (omega arith) in
    let none : n - n ≡ 0 = omega arith in
    set-append_right (take n new) (drop n old) n n (get_or new n d) front (omega arith)
    ∙ ap (λ (k : ℕ). take n new ++ set (drop n old) k (get_or new n d)) none
    ∙ ap (λ (r : List A). take n new ++ set r 0 (get_or new n d)) rest
    ∙ sym (append_assoc (take n new) (get_or new n d ∷ []) (drop (n + 1) old))
    ∙ ap (λ (f : List A). f ++ drop (n + 1) old) (sym (take_more new n d small))

pub half_whole : {A : Type 0} (new old : List A) (n : ℕ) → length new ≤ n → length new ≡ length old → half new old n ≡ new
half_whole {A} new old n over same = ap (λ (rest : List A). take n new ++ rest) (drop_all n old (omega arith)) ∙ append-nil (take n new) ∙ take_all n new over
