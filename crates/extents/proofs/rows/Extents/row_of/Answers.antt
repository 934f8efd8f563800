use Rattle.extents.proofs.Imports.{◌≡◌, ℕ, length, inl, inr, ⊎_elim, arith, Iter, zip_first, zip_second, iter_rest, slice_get_within, place, same_row, row_turn, row_end, row_so_far_le, place_fits, place_is_row}
use Rattle.extents.proofs.rows.Extents.row_of.Goals as goal

pub overflow_mul-row : goal.overflow_mul-row
overflow_mul-row c =
    let s = c.in-Some.ensures.steps in
    let turn = row_turn _ _ _ _ _ _ _ _ s.1 s.0 c.loop-component.invariant.2 in
    let fits = place_fits c.args.self.now c.args.index.now c.sizes.ensures.extents c.requires in
    let le = row_so_far_le _ _ _ _ turn in
    rw c.from.ensures (omega arith)

pub overflow_add-row : goal.overflow_add-row
overflow_add-row c =
    let s = c.in-Some.ensures.steps in
    let turn = row_turn _ _ _ _ _ _ _ _ s.1 s.0 c.loop-component.invariant.2 in
    let fits = place_fits c.args.self.now c.args.index.now c.sizes.ensures.extents c.requires in
    let le = row_so_far_le _ _ _ _ turn in
    rw c.from.ensures (omega arith)

found : (c : goal.In-None) → c.loop-component.row ≡ place c.args.self.now c.args.index.now
found c =
    row_end _ _ _ _ (⊎_elim (λ (z : (x : Iter ℕ) × ((length (iter_rest (zip_first c.loop-component.component-iterator)) ≡ 0) × (x ≡ zip_first c.loop-component.component-iterator))). inl z.1.0) (λ (z : (x : Iter ℕ) × ((length (iter_rest (zip_second c.loop-component.component-iterator)) ≡ 0) × (x ≡ zip_second c.loop-component.component-iterator))). inr z.1.0) c.in-None.ensures.steps) c.loop-component.invariant.2

pub returns-clause-entry : goal.returns-clause-entry
returns-clause-entry c = place_is_row c.args.self.now c.args.index.now c.loop-component.row c.requires (found c)

pub returns-clause-below : goal.returns-clause-below
returns-clause-below c = slice_get_within _ _ _ (place_is_row c.args.self.now c.args.index.now c.loop-component.row c.requires (found c))

pub returns-clause-alone : goal.returns-clause-alone
returns-clause-alone c = λ other at.
    same_row c.args.self.now c.args.index.now other c.loop-component.row at (place_is_row c.args.self.now c.args.index.now c.loop-component.row c.requires (found c))
