use Rattle.lane_kernels.proofs.Imports.{rules, ◌≡◌, ◌*ℤ◌, ◌+ℤ◌, ℤ, pos, Some, length, take, drop, map, to_z, of_z, w64, SFits, refl, sym, ap, subst, ◌∙◌, int_min, int_max, count_by, unwrap_or, zip2, to_z-of_z, map-id, products_fit, column, compares, fault_in, AreNext, Sum, Least, Greatest, CountWhere, common_steps, arith}
use Rattle.lane_kernels.specs.declared.reduce.Reduction.TheVariants as form
use Rattle.lane_kernels.proofs.Numbers.{narrow_rows, reduced_more, narrow_sums_fit, count_more, count_fits, count_whole}
use Rattle.lane_kernels.proofs.Stores.{axpy_taken, clamp_taken, rows_read_alone}
use Rattle.lane_kernels.proofs.rows.on_rows.Given as given
use Rattle.lane_kernels.proofs.rows.on_rows.Goals as goal

pub times_plus-requires-clause-fit : goal.times_plus-requires-clause-fit
times_plus-requires-clause-fit g c = grind (arith, common_steps, narrow_rows, to_z-of_z, products_fit)

pub returns-in-Axpy-clause-taken : goal.returns-in-Axpy-clause-taken
returns-in-Axpy-clause-taken g c =
    let n = length c.args.values.now in
    let row = c.args.row in
    let a = c.in-Axpy.a in
    let x = c.in-Axpy.x in
    let y = c.in-Axpy.y in
    let xs = c.read_rows.new.values in
    let ys = c.read_rows-in-Axpy.new.values in
    let fits : SFits w64 a = search rules in
    let other = rw c.requires.beside at c.read_rows-in-Axpy.ensures.same in
    let second = rw c.requires.beside at c.read_rows-in-Axpy.ensures.values in
    let made : c.times_plus.new.values ≡ zip2 (λ v w. a *ℤ v +ℤ w) xs ys =
    sym (map-id c.times_plus.new.values) ∙ c.times_plus.ensures ∙ ap (λ (z : ℤ). zip2 (λ v w. z *ℤ v +ℤ w) xs ys) (to_z-of_z w64 a fits) in
    rw c.in-Axpy.is (axpy_taken c.args.view.now c.read_rows.new.view c.read_rows-in-Axpy.new.view c.store_rows.new.view a x y row n xs ys c.times_plus.new.values (fault_in c.store_rows.result)
    c.read_rows.ensures.same other c.read_rows.ensures.values second made c.requires.rows.inside c.store_rows.ensures.fault c.store_rows.ensures.stored)

pub returns-in-Clamp-clause-taken : goal.returns-in-Clamp-clause-taken
returns-in-Clamp-clause-taken g c =
    let read = c.read_rows-in-Clamp in
    let lo = c.in-Clamp.lo in
    let hi = c.in-Clamp.hi in
    let xs = c.read_rows-in-Clamp.new.values in
    let low : SFits w64 lo = search rules in
    let high : SFits w64 hi = search rules in
    let made : c.clamp.new.values ≡ map (λ v. int_max lo (int_min v hi)) xs = grind (arith, map-id, int_max, int_min, to_z, of_z, to_z-of_z) in
    rw c.in-Clamp.is (clamp_taken c.args.view.now c.read_rows-in-Clamp.new.view c.store_rows-in-Clamp.new.view c.in-Clamp.x lo hi c.args.row (length c.args.values.now) xs c.clamp.new.values (fault_in c.store_rows-in-Clamp.result)
    c.read_rows-in-Clamp.ensures.same c.read_rows-in-Clamp.ensures.values made c.requires.rows.inside c.store_rows-in-Clamp.ensures.fault c.store_rows-in-Clamp.ensures.stored)

pub with_more-requires : goal.with_more-requires
with_more-requires g c = grind (arith, common_steps, narrow_sums_fit)

pub returns-in-Sum-clause-taken : goal.returns-in-Sum-clause-taken
returns-in-Sum-clause-taken g c =
    rw c.in-Sum.is (rows_read_alone c.args.view.now c.read_rows-in-Sum.new.view (Sum c.in-Sum.x) c.in-Sum.x c.args.row (length c.args.values.now) (λ seen. refl) (λ at. refl) (λ at. refl) c.read_rows-in-Sum.ensures.same)

pub returns-in-Sum-clause-number : goal.returns-in-Sum-clause-number
returns-in-Sum-clause-number g c =
    let n = length c.args.values.now in
    let x = c.in-Sum.x in
    let next : AreNext c.args.view.now.rows (Sum x) c.args.row n c.args.number = rw c.in-Sum.is at c.requires.rows in
    rw c.in-Sum.is (reduced_more (Sum x) form.Sum x c.args.view.now.rows c.args.row n c.args.number c.with_more.result c.read_rows-in-Sum.new.values (record { gives = λ rows. refl }) next
    c.read_rows-in-Sum.ensures.values c.with_more.ensures)

pub returns-in-Least-clause-taken : goal.returns-in-Least-clause-taken
returns-in-Least-clause-taken g c =
    rw c.in-Least.is (rows_read_alone c.args.view.now c.read_rows-in-Least.new.view (Least c.in-Least.x) c.in-Least.x c.args.row (length c.args.values.now) (λ seen. refl) (λ at. refl) (λ at. refl) c.read_rows-in-Least.ensures.same)

pub returns-in-Greatest-clause-taken : goal.returns-in-Greatest-clause-taken
returns-in-Greatest-clause-taken g c =
    rw c.in-Greatest.is (rows_read_alone c.args.view.now c.read_rows-in-Greatest.new.view (Greatest c.in-Greatest.x) c.in-Greatest.x c.args.row (length c.args.values.now) (λ seen. refl) (λ at. refl) (λ at. refl) c.read_rows-in-Greatest.ensures.same)

pub returns-in-CountWhere-clause-taken : goal.returns-in-CountWhere-clause-taken
returns-in-CountWhere-clause-taken g c =
    rw c.in-CountWhere.is (rows_read_alone c.args.view.now c.read_rows-in-CountWhere.new.view (CountWhere c.in-CountWhere.x c.in-CountWhere.op c.in-CountWhere.c) c.in-CountWhere.x c.args.row (length c.args.values.now) (λ seen. refl) (λ at. refl) (λ at. refl) c.read_rows-in-CountWhere.ensures.same)

pub returns-in-Least-clause-number : goal.returns-in-Least-clause-number
returns-in-Least-clause-number g c =
    let n = length c.args.values.now in
    let x = c.in-Least.x in
    let next : AreNext c.args.view.now.rows (Least x) c.args.row n c.args.number = rw c.in-Least.is at c.requires.rows in
    rw c.in-Least.is (reduced_more (Least x) form.Least x c.args.view.now.rows c.args.row n c.args.number c.with_more-in-Least.result c.read_rows-in-Least.new.values (record { gives = λ rows. refl }) next
    c.read_rows-in-Least.ensures.values c.with_more-in-Least.ensures)

pub returns-in-Greatest-clause-number : goal.returns-in-Greatest-clause-number
returns-in-Greatest-clause-number g c =
    let n = length c.args.values.now in
    let x = c.in-Greatest.x in
    let next : AreNext c.args.view.now.rows (Greatest x) c.args.row n c.args.number = rw c.in-Greatest.is at c.requires.rows in
    rw c.in-Greatest.is (reduced_more (Greatest x) form.Greatest x c.args.view.now.rows c.args.row n c.args.number c.with_more-in-Greatest.result c.read_rows-in-Greatest.new.values (record { gives = λ rows. refl }) next
    c.read_rows-in-Greatest.ensures.values c.with_more-in-Greatest.ensures)

-- a count
next_is : (g : given.Over) (c : goal.After-count g) → AreNext c.args.view.now.rows (CountWhere c.in-CountWhere.x c.in-CountWhere.op c.in-CountWhere.c) c.args.row (length c.args.values.now) c.args.number
next_is g c = rw c.in-CountWhere.is at c.requires.rows

whole : (g : given.Over) (c : goal.After-count g)
    → to_z w64 (of_z w64 c.unwrap_or.result) +ℤ to_z w64 c.count.result
    ≡ unwrap_or c.args.number (pos 0) +ℤ pos (count_by (λ value. compares c.in-CountWhere.op value c.in-CountWhere.c) (column c.in-CountWhere.x (take (length c.args.values.now) (drop c.args.row c.args.view.now.rows))))
whole g c = grind (arith, count_by, to_z-of_z, count_whole, to_z, of_z, next_is)

sum_fits : (g : given.Over) (c : goal.After-count g) → SFits w64 (to_z w64 (of_z w64 c.unwrap_or.result) +ℤ to_z w64 c.count.result)
sum_fits g c =
    subst (SFits w64) (sym (whole g c))
    (count_fits c.in-CountWhere.x c.in-CountWhere.op c.in-CountWhere.c c.args.view.now.rows c.args.row (length c.args.values.now) c.args.number c.requires.few (next_is g c))

pub overflow_add-result : goal.overflow_add-result
overflow_add-result g c = sum_fits g c

pub returns-in-CountWhere-clause-number : goal.returns-in-CountWhere-clause-number
returns-in-CountWhere-clause-number g c =
    rw (c.in-CountWhere.is, to_z-of_z w64 (to_z w64 (of_z w64 c.unwrap_or.result) +ℤ to_z w64 c.count.result) (sum_fits g c))
    (ap (λ (z : ℤ). Some z) (whole g c)
    ∙ count_more c.in-CountWhere.x c.in-CountWhere.op c.in-CountWhere.c c.args.view.now.rows c.args.row (length c.args.values.now) c.args.number (next_is g c))
