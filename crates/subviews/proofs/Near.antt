-- Sums of terms, in rows one behind another, that stay within 64 bits.
use Rattle.subviews.proofs.Imports.{◌≡◌, ℕ, ◌+◌, ◌*◌, ◌-◌, ◌^◌, ◌<◌, ◌≤◌, true, ℤ, pos, ◌+ℤ◌, ◌*ℤ◌, List, length, map, take, get_or, fold, Contains, FitsSigned, w64, ap, sym, subst, ◌∙◌, arith, max, unsigned_abs, mul-div-le, div-le_self, mul-le-mul_right, ints, unsigned_abs-mul, fits_signed_from_abs, length-map, sum_by_more, sum_by_more_le, mul-le, indices, stays_declared, low_64, low_same, entry, Leaf, leaves, run_of, Table, IsTable, rows_of, weighted, row_from, Plan, Run, Term, IsPlanOf, IsRunOf, all_weights, limit_of}
use Rattle.subviews.proofs.AtOnce.{low_value}
use Rattle.subviews.proofs.Values.{added, abs_sum, sum_more, plan_term, reached}
use Rattle.subviews.proofs.Ways.{row_held}

-- ---- the limit

weights_small : (terms : List Term) → all_weights terms * limit_of terms < 2 ^ 63
weights_small terms = grind (arith, mul-le-mul_right, mul-div-le)

limit_small : (terms : List Term) → limit_of terms < 2 ^ 63
limit_small terms = omega (arith, div-le_self (2 ^ 63 - 1) (max (all_weights terms) 1))

-- ---- the values that a term reads

pub record AreRead (table : Table) (plan : Plan) (first rows : ℕ) (term : Term) (read : List ℤ) : Type 0 where
  pub same : (k : ℕ) → k < rows → get_or read k (pos 0) ≡ entry table.rows (row_from plan.window.now.0 (first + k) term.offsets.items) term.leaf
  pub near : (k : ℕ) → k < rows → unsigned_abs (get_or read k (pos 0)) ≤ limit_of plan.terms.now

module _ (table : Table) (plan : Plan) (run : Run) (place : ℕ) (term : Term) (at : ℕ) (is : IsPlanOf table.fields table.extents plan) (near : plan.near ≡ true) (run_is : IsRunOf plan.window.now run)
    (small : place < length plan.terms.now) (term_is : term ≡ get_or plan.terms.now place term) (at_is : pos at ≡ pos run.first +ℤ get_or plan.far place (pos 0)) (table_is : IsTable table) where
  held : (k : ℕ) → k < run.rows → Contains (rows_of plan.window.now) (run.first + k)
  held k low = row_held plan.window.now (run.row + k) (run.first + k) (run_is.each k low)

  -- it reads rows one behind another
  there : (k : ℕ) → k < run.rows → row_from plan.window.now.0 (run.first + k) term.offsets.items ≡ at + k
  there k low =
      let to = reached table.fields table.extents plan (run.first + k) place term is (held k low) small term_is in
      omega (arith, ints, to.away, at_is)

  pub read_inside : at + run.rows ≤ length table.rows
  read_inside =
      let last = run.rows - 1 in
      let low : last < run.rows = omega (arith, run_is.some) in
      let to = reached table.fields table.extents plan (run.first + last) place term is (held last low) small term_is in
      let rows : length (indices plan.window.now.0) ≡ length table.rows = ap (λ (e : List ℕ). length (indices e)) is.window ∙ sym table_is.rows in
      omega (arith, run_is.some, there last low, to.inside, rows)

  pub values_read : (read : List ℤ) → read ≡ map low_64 (run_of term.leaf at run.rows table) → AreRead table plan run.first run.rows term read
  values_read read read_is = record {
    same = same;
    near = λ k low. subst (λ (v : ℤ). unsigned_abs v ≤ limit_of plan.terms.now) (sym (same k low)) (close k low);
  } where
    value : ℕ → ℤ
    value k = entry table.rows (row_from plan.window.now.0 (run.first + k) term.offsets.items) term.leaf

    close : (k : ℕ) → k < run.rows → unsigned_abs (value k) ≤ limit_of plan.terms.now
    close k low =
        let in_leaves = (plan_term table.fields table.extents plan place term is small term_is).inside in
        let to = reached table.fields table.extents plan (run.first + k) place term is (held k low) small term_is in
        let rows : length (indices plan.window.now.0) ≡ length table.rows = ap (λ (e : List ℕ). length (indices e)) is.window ∙ sym table_is.rows in
        let row = row_from plan.window.now.0 (run.first + k) term.offsets.items in
        let stays = table_is.stays row term.leaf (omega (arith, to.inside, rows)) (omega (arith, in_leaves, length-map (leaves table.fields) (λ (one : Leaf). one.kind))) in
        grind (arith, unsigned_abs, stays_declared)

    same : (k : ℕ) → k < run.rows → get_or read k (pos 0) ≡ value k
    same k low =
        let fits : FitsSigned w64 (value k) = fits_signed_from_abs w64 (value k) (omega (arith, close k low, limit_small plan.terms.now)) in
        ap (λ (l : List ℤ). get_or l k (pos 0)) read_is ∙ low_value table term.leaf at run.rows read_inside k low
        ∙ ap (λ (row : ℕ). low_64 (entry table.rows row term.leaf)) (sym (there k low)) ∙ low_same (value k) fits

-- ---- sums of the first so many terms

pub record AreSummed (table : Table) (plan : Plan) (first rows place : ℕ) (sums : List ℤ) : Type 0 where
  pub count : length sums ≡ rows
  pub each : (k : ℕ) → k < rows → get_or sums k (pos 0) ≡ fold (added plan table (first + k)) (pos 0) (take place (map weighted plan.terms.now))
  pub small : (k : ℕ) → k < rows → unsigned_abs (get_or sums k (pos 0)) ≤ all_weights (take place plan.terms.now) * limit_of plan.terms.now

module _ (table : Table) (plan : Plan) (first rows place : ℕ) (sums read : List ℤ) (term : Term) (low : place < length plan.terms.now) (term_is : term ≡ get_or plan.terms.now place term)
    (so_far : AreSummed table plan first rows place sums) (values : AreRead table plan first rows term read) where
  abbrev limit : ℕ
  limit = limit_of plan.terms.now

  abbrev before : ℕ
  before = all_weights (take place plan.terms.now)

  abbrev weight : ℕ
  weight = unsigned_abs term.weight

  -- the weights so far and this one are not more than all
  few : (before + weight) * limit < 2 ^ 63
  few = grind (arith, sum_by_more_le, unsigned_abs, mul-le-mul_right, weights_small)

  parts : (before + weight) * limit ≡ before * limit + weight * limit
  parts = omega arith

  product : (k : ℕ) → k < rows → unsigned_abs (term.weight *ℤ get_or read k (pos 0)) ≤ weight * limit
  product k inside = grind (arith, unsigned_abs-mul, mul-le, unsigned_abs)

  sum : (k : ℕ) → k < rows → unsigned_abs (get_or sums k (pos 0) +ℤ term.weight *ℤ get_or read k (pos 0)) ≤ before * limit + weight * limit
  sum k inside = omega (arith, abs_sum (get_or sums k (pos 0)) (term.weight *ℤ get_or read k (pos 0)), so_far.small k inside, product k inside)

  pub products_fit : (k : ℕ) → k < length sums → FitsSigned w64 (term.weight *ℤ get_or read k (pos 0))
  products_fit k inside = fits_signed_from_abs w64 (term.weight *ℤ get_or read k (pos 0)) (omega (arith, product k (omega (arith, inside, so_far.count)), few, parts))

  pub sums_fit : (k : ℕ) → k < length sums → FitsSigned w64 (get_or sums k (pos 0) +ℤ term.weight *ℤ get_or read k (pos 0))
  sums_fit k inside = fits_signed_from_abs w64 (get_or sums k (pos 0) +ℤ term.weight *ℤ get_or read k (pos 0)) (omega (arith, sum k (omega (arith, inside, so_far.count)), few, parts))

  pub summed_run : (after : List ℤ) → length after ≡ length sums → ((k : ℕ) → k < length sums → get_or after k (pos 0) ≡ get_or sums k (pos 0) +ℤ term.weight *ℤ get_or read k (pos 0))
      → AreSummed table plan first rows (place + 1) after
  summed_run after long each =
      let more = sum_by_more (λ (t : Term). unsigned_abs t.weight) plan.terms.now place term low in
      let here = ap (λ (t : Term). unsigned_abs t.weight) term_is in
      let next : all_weights (take (place + 1) plan.terms.now) ≡ before + weight = omega (arith, more, here) in
      let bound : all_weights (take (place + 1) plan.terms.now) * limit ≡ before * limit + weight * limit = ap (λ (n : ℕ). n * limit) next ∙ parts in
      record {
        count = long ∙ so_far.count;
        each = λ k inside. grind (arith, sum_more);
        small = λ k inside. omega (arith, ap unsigned_abs (each k (omega (arith, inside, so_far.count))), sum k inside, bound);
      }
