use Rattle.extents.proofs.Imports.{◌≡◌, length, ap, subst, arith, rules, List, ℕ, zip_first, zip_second, iter_rest, IsInside, Span, moved, window_once, moved_inside, inside_narrow, inside_length, push_room, moved_whole, slice_get, window_row}
use Rattle.std.proofs.lemmas.Grind.{common_steps}
use Rattle.extents.proofs.window.Window.outer.Goals as goal

pub loop-component-init : goal.loop-component-init
loop-component-init c =
    let first : iter_rest (zip_first c.into_iter-component-iterator.result) ≡ c.index_of-inner.result.items = search rules in
    let second : iter_rest (zip_second c.into_iter-component-iterator.result) ≡ c.self.inside.spans.items = search rules in
    let inside = moved_inside c.self.inside.extents c.self.inside.spans.items c.index_of-inner.result.items c.self.invariant.0
    (subst (λ (sizes : List ℕ). IsInside sizes c.index_of-inner.result.items) c.self.invariant.1 c.index_of-inner.ensures.inside) in grind (arith, inside_narrow)

pub push-requires : goal.push-requires
push-requires c =
    let s = c.in-Some.ensures.steps in
    let first : iter_rest (zip_first c.into_iter-component-iterator.result) ≡ c.index_of-inner.result.items = search rules in
    let second : iter_rest (zip_second c.into_iter-component-iterator.result) ≡ c.self.inside.spans.items = search rules in
    let inside = moved_inside c.self.inside.extents c.self.inside.spans.items c.index_of-inner.result.items c.self.invariant.0
    (subst (λ (sizes : List ℕ). IsInside sizes c.index_of-inner.result.items) c.self.invariant.1 c.index_of-inner.ensures.inside) in
    let room = push_room c.loop-component.index.items _ _ _ _ _ _ _ s.1 s.0 c.loop-component.invariant.2 in
    let whole = ap (λ (xs : List ℕ). length (moved (iter_rest (zip_second c.into_iter-component-iterator.result)) xs)) first in
    let same = ap (λ (xs : List Span). length (moved xs c.index_of-inner.result.items)) second in
    (omega arith, omega (arith, room, whole, same, inside_length _ _ inside, c.self.invariant.2.few))

pub returns-clause-entry : goal.returns-clause-entry
returns-clause-entry c = grind (arith, common_steps, moved_whole, slice_get, window_row)

pub returns-clause-alone : goal.returns-clause-alone
returns-clause-alone c = λ other same. window_once c.args.self.now.0 c.args.self.now.1 other c.args.row c.row_of.result same (returns-clause-entry c)
