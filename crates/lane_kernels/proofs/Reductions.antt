-- What a reduction gives of some numbers and of more of them.
use Rattle.lane_kernels.proofs.Imports.{◌≡◌, ℕ, zero, suc, ◌+◌, ◌*◌, ◌-◌, ◌^◌, ◌≤◌, List, [], ◌∷◌, ◌++◌, length, take, drop, map, fold, FitsSigned, ℤ, pos, neg_ℤ, ◌+ℤ◌, ◌≤ℤ◌, w64, Option, Some, None, refl, sym, ap, subst, ◌∙◌, arith, length-take, option_map, int_min, int_max, w128, slice_get, unwrap_or, option_or, Each1, ints, int_min_is, int_max_is, take-add, map-id, take-take, take_all, fold-map, fold-append, Each1-chunk, narrow_sum_fits, SumsFit, IsWithin64, reduced_by, extreme_with, with_more, CanAdd, Reduction, IsNarrow}
use Rattle.lane_kernels.specs.declared.reduce.Reduction.TheVariants.{Sum, Least, Greatest}

-- where there are none before, and where it is known of those
pub none_before : (form : Reduction) (more : List ℤ) → with_more form None more ≡ reduced_by form more
none_before form more = grind arith

pub more_of : (form : Reduction) (xs ys : List ℤ) → with_more form (reduced_by form xs) ys ≡ reduced_by form (xs ++ ys)
more_of form xs ys = grind (arith, fold-append, int_min, int_max)

-- of a type whose numbers are their own values
itself : (number : Option ℤ) → option_map (λ z. z) number ≡ number
itself number = grind arith

pub plain_more : (form : Reduction) (result number : Option ℤ) (more : List ℤ) → option_map (λ z. z) result ≡ with_more form (option_map (λ z. z) number) (map (λ z. z) more)
    → result ≡ with_more form number more
plain_more form result number more is = grind (arith, itself, map-id)

-- of numbers of any type, by their values
pub extreme_given : {T : Type 0} (pick : ℤ → ℤ → ℤ) (value : T → ℤ) (number : Option T) (more : List T) (start : T) (found : ℤ) → ((z : ℤ) → pick z z ≡ z)
    → Some start ≡ option_or number (slice_get more 0) → found ≡ fold (λ a x. pick a (value x)) (value start) more → Some found ≡ extreme_with pick (option_map value number) (map value more)
extreme_given pick value (Some number) more start found same begun is = grind (arith, fold-map)
extreme_given pick value None [] start found same begun is = absurd (cc)
extreme_given pick value None (x ∷ more) start found same begun is = grind (arith, fold-map)

pub same_min : (z : ℤ) → int_min z z ≡ z
same_min z = omega (arith, ints, int_min_is z z)

pub same_max : (z : ℤ) → int_max z z ≡ z
same_max z = omega (arith, ints, int_max_is z z)

-- from what it gives of the latter alone
fold_from : (pick : ℤ → ℤ → ℤ) (a b : ℤ) (xs : List ℤ) → ((u v w : ℤ) → pick (pick u v) w ≡ pick u (pick v w)) → fold pick (pick a b) xs ≡ pick a (fold pick b xs)
fold_from pick a b [] joins = refl
fold_from pick a b (x ∷ xs) joins = ap (λ (z : ℤ). fold pick z xs) (joins a b x) ∙ fold_from pick a (pick b x) xs joins

sum_from : (a : ℤ) (xs : List ℤ) → fold (λ u v. u +ℤ v) a xs ≡ a +ℤ fold (λ u v. u +ℤ v) (pos 0) xs
sum_from a xs =
    let whole : a ≡ a +ℤ pos 0 = omega (arith, ints) in
    ap (λ (z : ℤ). fold (λ (u v : ℤ). u +ℤ v) z xs) whole ∙ fold_from (λ u v. u +ℤ v) a (pos 0) xs (λ u v w. omega (arith, ints))

min_joins : (u v w : ℤ) → int_min (int_min u v) w ≡ int_min u (int_min v w)
min_joins u v w = omega (arith, ints, int_min_is u v, int_min_is (int_min u v) w, int_min_is v w, int_min_is u (int_min v w))

max_joins : (u v w : ℤ) → int_max (int_max u v) w ≡ int_max u (int_max v w)
max_joins u v w = omega (arith, ints, int_max_is u v, int_max_is (int_max u v) w, int_max_is v w, int_max_is u (int_max v w))

pub joined : (form : Reduction) (number : Option ℤ) (run : List ℤ) (given : ℤ) → Some given ≡ reduced_by form run → with_more form number (given ∷ []) ≡ with_more form number run
joined Sum number run given is = grind (arith, unwrap_or, sum_from)
joined Least None run given is = is
joined Least (Some number) [] given is = absurd (cc)
joined Least (Some number) (x ∷ run) given is =
    let all : given ≡ fold int_min x run = cc in
    ap (λ (z : ℤ). Some (int_min number z)) all ∙ ap (λ (z : ℤ). Some z) (sym (fold_from int_min number x run min_joins))
joined Greatest None run given is = is
joined Greatest (Some number) [] given is = absurd (cc)
joined Greatest (Some number) (x ∷ run) given is =
    let all : given ≡ fold int_max x run = cc in
    ap (λ (z : ℤ). Some (int_max number z)) all ∙ ap (λ (z : ℤ). Some z) (sym (fold_from int_max number x run max_joins))

-- sums of more numbers in line fit, where those of all from the first on do
pub run_sums_fit : (fits : ℤ → Type 0) (all : List ℤ) (row step : ℕ) (start : ℤ) → start ≡ fold (λ a b. a +ℤ b) (pos 0) (take row all)
    → ((n : ℕ) → fits (fold (λ a b. a +ℤ b) (pos 0) (take n all))) → SumsFit (λ z. z) fits start (take step (drop row all))
run_sums_fit fits all row step start is each k inside =
    let some = take k (take step (drop row all)) in
    let within : k ≤ step = omega (arith, length-take step (drop row all)) in
    let parts : take row all ++ some ≡ take (row + k) all = ap (λ (more : List ℤ). take row all ++ more) (take-take k step (drop row all) within) ∙ sym (take-add row k all) in
    grind (arith, fold-append)

pub run_can_add : (fits : ℤ → Type 0) (form : Reduction) (all : List ℤ) (row step : ℕ) (number : Option ℤ) → number ≡ reduced_by form (take row all)
    → ((n : ℕ) → fits (fold (λ a b. a +ℤ b) (pos 0) (take n all))) → CanAdd (λ z. z) fits form number (take step (drop row all))
run_can_add fits Sum all row step number is each =
    run_sums_fit fits all row step (unwrap_or (option_map (λ z. z) number) (pos 0)) (ap (λ (n : Option ℤ). unwrap_or (option_map (λ z. z) n) (pos 0)) is) each
run_can_add fits Least all row step number is each = tt
run_can_add fits Greatest all row step number is each = tt

-- sums of narrow numbers alone
pub narrow_can_add : (form : Reduction) (numbers : List ℤ) → length numbers ≤ 2 ^ 30 → Each1 IsNarrow numbers → CanAdd (λ z. z) (λ z. FitsSigned w64 z) form None numbers
narrow_can_add Sum numbers few narrow = λ k inside. narrow_sum_fits (take k numbers) (omega (arith, length-take k numbers)) (Each1-chunk IsNarrow 0 k numbers narrow)
narrow_can_add Least numbers few narrow = tt
narrow_can_add Greatest numbers few narrow = tt

-- what a reduction gives of numbers alone may be added where each of them may
pub joined_can_add : (fits : ℤ → Type 0) (form : Reduction) (number : Option ℤ) (run : List ℤ) (given : ℤ) → Some given ≡ reduced_by form run
    → CanAdd (λ z. z) fits form number run → CanAdd (λ z. z) fits form number (given ∷ [])
joined_can_add fits Sum number run given is can = one where
  start : ℤ
  start = unwrap_or (option_map (λ z. z) number) (pos 0)

  all : fold (λ a b. a +ℤ b) (pos 0) run ≡ given
  all = cc

  one : SumsFit (λ z. z) fits start (given ∷ [])
  one zero inside = can 0 (omega arith)
  one (suc zero) inside =
      subst fits (ap (fold (λ (a b : ℤ). a +ℤ b) start) (take_all (length run) run (omega arith)) ∙ sum_from start run ∙ ap (λ (z : ℤ). start +ℤ z) all) (can (length run) (omega arith))
  one (suc (suc k)) inside = absurd (omega arith)
joined_can_add fits form number run given is can = grind arith

-- what some numbers of 64 bits can sum to
record IsSumOf (count : ℕ) (sum : ℤ) : Type 0 where
  pub least : neg_ℤ (pos (count * 2 ^ 64)) ≤ℤ sum
  pub greatest : sum ≤ℤ pos (count * 2 ^ 64)

sum_of : (count : ℕ) (sum : ℤ) (xs : List ℤ) → IsSumOf count sum → Each1 IsWithin64 xs → IsSumOf (count + length xs) (fold (λ s x. s +ℤ x) sum xs)
sum_of count sum [] a within = let none : count ≡ count + 0 = omega arith in subst (λ (n : ℕ). IsSumOf n sum) none a
sum_of count sum (x ∷ xs) a within =
    let next : count + 1 + length xs ≡ count + length (x ∷ xs) = omega arith in
    subst (λ (n : ℕ). IsSumOf n (fold (λ s x. s +ℤ x) (sum +ℤ x) xs)) next
    (sum_of (count + 1) (sum +ℤ x) xs (record { least = omega (arith, ints, a.least, within.0.0); greatest = omega (arith, ints, a.greatest, within.0.1) }) within.1)

fits_between : (z : ℤ) → neg_ℤ (pos (2 ^ 127)) ≤ℤ z → z ≤ℤ pos (2 ^ 127 - 1) → FitsSigned w128 z
fits_between z least greatest = grind arith

pub wide_sum_fits : (xs : List ℤ) → length xs ≤ 2 ^ 30 → Each1 IsWithin64 xs → FitsSigned w128 (fold (λ s x. s +ℤ x) (pos 0) xs)
wide_sum_fits xs few within =
    let all = sum_of 0 (pos 0) xs (record { least = omega (arith, ints); greatest = omega (arith, ints) }) within in
    fits_between (fold (λ s x. s +ℤ x) (pos 0) xs) (omega (arith, ints, all.least)) (omega (arith, ints, all.greatest))
