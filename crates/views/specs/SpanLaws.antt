-- Sums over numbers one after another.
use Rattle.std.specs.Prelude.{◌≡◌, ℕ, zero, suc, ◌+◌, ◌-◌, ◌*◌, ◌<◌, ◌≤◌, List, [], ◌∷◌, sum_by, refl}
use Rattle.views.specs.Imports.{ap, ◌∙◌, arith, range_with_len, sum_by_push, sum_by-cons}
use Rattle.views.specs.TallyLaws.{range_more}

module _ (f : ℕ → ℕ) (first : ℕ) where
  -- one number more
  pub span_more : (n : ℕ) → sum_by f (range_with_len first (n + 1)) ≡ sum_by f (range_with_len first n) + f (first + n)
  span_more n = ap (sum_by f) (range_more first n (first + n) refl) ∙ sum_by_push f (range_with_len first n) (first + n)

  span_grows : (n more : ℕ) → sum_by f (range_with_len first n) ≤ sum_by f (range_with_len first (n + more))
  span_grows n zero = grind (arith, sum_by, range_with_len)
  span_grows n (suc more) =
      let end : n + suc more ≡ n + more + 1 = omega arith in
      let same : sum_by f (range_with_len first (n + suc more)) ≡ sum_by f (range_with_len first (n + more + 1)) = ap (λ (m : ℕ). sum_by f (range_with_len first m)) end in
      omega (arith, same, span_grows n more, span_more (n + more))

  span_next : (n count : ℕ) → 0 < count → sum_by f (range_with_len first n) + f (first + n) ≤ sum_by f (range_with_len first (n + count))
  span_next n count some =
      let end : n + 1 + (count - 1) ≡ n + count = omega arith in
      let same : sum_by f (range_with_len first (n + 1 + (count - 1))) ≡ sum_by f (range_with_len first (n + count)) = ap (λ (m : ℕ). sum_by f (range_with_len first m)) end in
      omega (arith, same, span_grows (n + 1) (count - 1), span_more n)

  -- numbers that come so many behind each other, and have the same
  pub span_pieces : (n count pieces each : ℕ) → 0 < count → ((k : ℕ) → k < pieces → f (first + (n + k * count)) ≡ each)
      → sum_by f (range_with_len first n) + pieces * each ≤ sum_by f (range_with_len first (n + pieces * count))
  span_pieces n count zero each some all = grind (arith, sum_by, range_with_len)
  span_pieces n count (suc pieces) each some all =
      let so_far : sum_by f (range_with_len first n) + pieces * each ≤ sum_by f (range_with_len first (n + pieces * count)) =
      span_pieces n count pieces each some (λ k inside. all k (omega (arith, inside))) in
      let here : f (first + (n + pieces * count)) ≡ each = all pieces (omega arith) in
      let next = span_next (n + pieces * count) count some in
      let end : n + pieces * count + count ≡ n + suc pieces * count = grind arith in
      let same : sum_by f (range_with_len first (n + pieces * count + count)) ≡ sum_by f (range_with_len first (n + suc pieces * count)) = ap (λ (m : ℕ). sum_by f (range_with_len first m)) end in
      let all_of : suc pieces * each ≡ pieces * each + each = grind arith in
      omega (arith, so_far, here, next, same, all_of)

-- a sum in two parts
pub span_join : (f : ℕ → ℕ) (first count : ℕ) → sum_by f (range_with_len 0 first) + sum_by f (range_with_len first count) ≡ sum_by f (range_with_len 0 (first + count))
span_join f first zero = grind (arith, sum_by, range_with_len)
span_join f first (suc count) =
    let e : suc count ≡ count + 1 = omega arith in
    let here : sum_by f (range_with_len first (suc count)) ≡ sum_by f (range_with_len first (count + 1)) = ap (λ (m : ℕ). sum_by f (range_with_len first m)) e in
    let end : first + suc count ≡ first + count + 1 = omega arith in
    let there : sum_by f (range_with_len 0 (first + suc count)) ≡ sum_by f (range_with_len 0 (first + count + 1)) = ap (λ (m : ℕ). sum_by f (range_with_len 0 m)) end in
    let plain : 0 + (first + count) ≡ first + count = omega arith in
    let last : f (0 + (first + count)) ≡ f (first + count) = ap f plain in
    omega (arith, here, there, last, span_join f first count, span_more f first count, span_more f 0 (first + count))

-- the sum of two sums
pub sum_both : (f g : ℕ → ℕ) (ns : List ℕ) → sum_by (λ n. f n + g n) ns ≡ sum_by f ns + sum_by g ns
sum_both f g [] = refl
sum_both f g (n ∷ ns) =
    let whole : sum_by (λ (m : ℕ). f m + g m) (n ∷ ns) ≡ f n + g n + sum_by (λ (m : ℕ). f m + g m) ns = sum_by-cons (λ (m : ℕ). f m + g m) n ns in
    omega (arith, whole, sum_by-cons f n ns, sum_by-cons g n ns, sum_both f g ns)
