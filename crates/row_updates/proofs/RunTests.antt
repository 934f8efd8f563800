-- The rows of a run that pass, by the values of the filter.
use Rattle.row_updates.proofs.Imports.{◌≡◌, ◌∙◌, ℕ, zero, suc, ◌+◌, ◌<◌, ◌≤◌, List, [], ◌∷◌, length, get_or, ℤ, pos, Bool, true, false, cond, count_by, Some, Result, Ok, refl, sym, subst, arith, count_by-le-length, sum_by-cons, Term, is_true, IsSafe, worth, Table, UpdateFault, Run, AreWorth, AreTested, AreCounted, bool_byte}
use Rattle.row_updates.proofs.Rows.{one_counted}

-- a row passes where the value of the filter is not 0
pub tested : (table : Table) (run : Run) (term : Term ℕ) (values : List ℤ) → IsSafe run.leaves.now run.places.now term → AreWorth table run term values
    → AreTested table (Some term) run.first (length values) (λ k. is_true (get_or values k (pos 0)))
tested table run term values safe worthy k small = grind (arith, worth)

-- how many pass of one more
off : (b : Bool) (rest : ℕ) → cond b 1 0 + rest ≡ 0 → (b ≡ false) × (rest ≡ 0)
off b rest none = grind arith

on : (b : Bool) (rest all : ℕ) → cond b 1 0 + rest ≡ suc all → rest ≤ all → (b ≡ true) × (rest ≡ all)
on b rest all whole few = grind arith

counts : (value : ℤ) (values : List ℤ) → count_by is_true (value ∷ values) ≡ cond (is_true value) 1 0 + count_by is_true values
counts value values = sum_by-cons (λ (x : ℤ). cond (is_true x) 1 0) value values

pub none_true : (values : List ℤ) → count_by is_true values ≡ 0 → (k : ℕ) → is_true (get_or values k (pos 0)) ≡ false
none_true [] none k = refl
none_true (value ∷ values) none zero = (off (is_true value) (count_by is_true values) (sym (counts value values) ∙ none)).0
none_true (value ∷ values) none (suc k) = none_true values (off (is_true value) (count_by is_true values) (sym (counts value values) ∙ none)).1 k

pub all_true : (values : List ℤ) → count_by is_true values ≡ length values → (k : ℕ) → k < length values → is_true (get_or values k (pos 0)) ≡ true
all_true [] all k small = absurd (omega (arith, small))
all_true (value ∷ values) all zero small = (on (is_true value) (count_by is_true values) (length values) (sym (counts value values) ∙ all) (count_by-le-length is_true values)).0
all_true (value ∷ values) all (suc k) small = all_true values (on (is_true value) (count_by is_true values) (length values) (sym (counts value values) ∙ all) (count_by-le-length is_true values)).1 k (omega (arith, small))

as_byte : (b : Bool) → bool_byte b ≡ cond b 1 0
as_byte b = grind arith

-- the rows of a run are counted behind those before
pub run_counted : (step : ℕ → Result Bool UpdateFault) (values : List ℤ) (first before : ℕ) → AreCounted step first before
    → ((k : ℕ) → k < length values → step (first + k) ≡ Ok (is_true (get_or values k (pos 0)))) → AreCounted step (first + length values) (before + count_by is_true values)
run_counted step [] first before so_far gives = grind arith
run_counted step (value ∷ values) first before so_far gives =
    let test = is_true value in
    let here : first + 0 ≡ first = omega arith in
    let one = one_counted step first before (bool_byte test) test so_far (subst (λ (n : ℕ). step n ≡ Ok test) here (gives 0 (omega arith))) refl in
    let rest = run_counted step values (first + 1) (before + bool_byte test) one (λ k small.
    (let next : first + suc k ≡ (first + 1) + k = omega arith in
    subst (λ (n : ℕ). step n ≡ Ok (is_true (get_or values k (pos 0)))) next (gives (suc k) (omega (arith, small))))) in
    let end : (first + 1) + length values ≡ first + suc (length values) = omega arith in
    let sum : (before + bool_byte test) + count_by is_true values ≡ before + count_by is_true (value ∷ values) = omega (arith, as_byte test, counts value values) in
    subst (λ (n : ℕ). AreCounted step n (before + count_by is_true (value ∷ values))) end (subst (AreCounted step ((first + 1) + length values)) sum rest)
