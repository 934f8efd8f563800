use Rattle.extents.proofs.Imports.{◌≡◌, ◌≢◌, ◌/◌, map, sym, ap, ◌∙◌, arith, count_by, unwrap_or, IsSomeAnd, false≢true, is_rows, extent_of, extents_for, fixed_product, IsUneven, IsUnequal, product, same_fixed, product_fixed, product_divided, settled, settled_too_many, settled_first}
use Rattle.extents.proofs.words.Shape.resolve.Goals as goal
use Rattle.std.proofs.lemmas.Grind.{common_steps}

pub bounded-requires-clause-counted : goal.bounded-requires-clause-counted
bounded-requires-clause-counted c =
    product_fixed c.as_slice-words.result.now 0 c.fixed_product-fixed.result (omega arith) c.fixed_product-fixed.ensures

-- with no `Rows`
fixed_settled : (c : goal.After-bounded) → (count_by is_rows c.args.self.now ≡ 0) × (¬ IsUnequal c.args.self.now c.args.rows) × (c.fixed_product-fixed.result ≡ product (extents_for c.args.self.now c.args.rows))
fixed_settled c =
    let same : c.as_slice-words.result.now ≡ c.args.self.now = c.as_slice-words.ensures.value ∙ c.self.view_is in
    let none : count_by is_rows c.args.self.now ≡ 0 = omega (arith, ap (count_by is_rows) same) in
    let fixed : c.fixed_product-fixed.result ≡ fixed_product c.args.self.now = c.fixed_product-fixed.ensures ∙ ap fixed_product same in
    let equal : ¬ IsSomeAnd c.args.rows (λ n. n ≢ c.fixed_product-fixed.result) = λ u. false≢true (sym c.if-differs.false ∙ c.differs.ensures.1 u) in
    let equal' : ¬ IsSomeAnd c.args.rows (λ n. n ≢ fixed_product c.args.self.now) = rw fixed at equal in
    (none, (λ u. equal' u.1), product_fixed c.args.self.now (unwrap_or c.args.rows 0 / fixed_product c.args.self.now) c.fixed_product-fixed.result none fixed)

pub returns-then-count_rows-eq0-clause-ok : goal.returns-then-count_rows-eq0-clause-ok
returns-then-count_rows-eq0-clause-ok c = grind (arith, common_steps, fixed_settled, settled)

pub returns-then-count_rows-eq0-clause-too_many : goal.returns-then-count_rows-eq0-clause-too_many
returns-then-count_rows-eq0-clause-too_many c = grind (arith, common_steps, fixed_settled, settled_too_many)

pub returns-then-count_rows-eq0-clause-first : goal.returns-then-count_rows-eq0-clause-first
returns-then-count_rows-eq0-clause-first c = grind (arith, common_steps, fixed_settled, settled_first)

pub returns-then-count_rows-eq0-clause-extents : goal.returns-then-count_rows-eq0-clause-extents
returns-then-count_rows-eq0-clause-extents c =
    let same : c.as_slice-words.result.now ≡ c.args.self.now = c.as_slice-words.ensures.value ∙ c.self.view_is in
    let none : count_by is_rows c.args.self.now ≡ 0 = omega (arith, ap (count_by is_rows) same) in
    let filled : map (extent_of 0) c.as_slice-words.result.now ≡ extents_for c.args.self.now c.args.rows =
    ap (map (extent_of 0)) same ∙ same_fixed c.args.self.now 0 (unwrap_or c.args.rows 0 / fixed_product c.args.self.now) none in
    rw (sym filled) c.bounded.ensures.value

-- with `Rows`
rows_settled : (c : goal.After-bounded-2) → (¬ IsUneven c.args.self.now c.args.rows) × (¬ IsUnequal c.args.self.now c.args.rows) × (c.from-rows.result ≡ product (extents_for c.args.self.now c.args.rows))
rows_settled c = grind (arith, unwrap_or, count_by, product_divided)

pub returns-clause-ok : goal.returns-clause-ok
returns-clause-ok c = grind (arith, common_steps, rows_settled, settled)

pub returns-clause-too_many : goal.returns-clause-too_many
returns-clause-too_many c = grind (arith, common_steps, rows_settled, settled_too_many)

pub returns-clause-first : goal.returns-clause-first
returns-clause-first c = grind (arith, common_steps, rows_settled, settled_first)
