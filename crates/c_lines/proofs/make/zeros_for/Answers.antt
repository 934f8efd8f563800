use Rattle.c_lines.proofs.Lemmas.{rules, ◌≡◌, ◌∙◌, ℕ, List, length, IfSome, Ok, Err, sym, ap, subst, indices, Table, resolved, named_of, goes_ok, if_answered, tells_refused, tells_test, zeros_refused, zeros_made}
use Rattle.c_lines.proofs.make.zeros_for.Goals as goal

pub returns-in_err-extents-clause-zeros : goal.returns-in_err-extents-clause-zeros
returns-in_err-extents-clause-zeros c =
    let asked = c.args.asked.now in
    zeros_refused (named_of asked.record c.args.found.now) asked.new.words c.args.rows c.in_err-extents.field-0.0 _ (search rules)
    (tells_test _ c.resolved.result (resolved asked.new.words c.args.rows) (Err c.in_err-extents.field-0.0) c.in_err-extents.ensures (rw c.as_slice.ensures at c.resolved.ensures.extents))

pub returns-in_err-view-clause-zeros : goal.returns-in_err-view-clause-zeros
returns-in_err-view-clause-zeros c =
    let asked = c.args.asked.now in
    let extents = c.in_ok-extents.extents in
    let goes : resolved asked.new.words c.args.rows ≡ Ok extents = goes_ok _ c.resolved.result _ extents c.in_ok-extents.ensures (rw c.as_slice.ensures at c.resolved.ensures.extents) in
    zeros_made (named_of asked.record c.args.found.now) asked.new.words c.args.rows extents c.from_residual-in_err-view.result goes
    (tells_refused (λ (view : Table). view) _ c.in_err-view.field-0.0 c.from_residual-in_err-view.result (search rules) (tells_test (λ (view : Table). view) c.made.result _ (Err c.in_err-view.field-0.0) c.in_err-view.ensures c.made.ensures.made))

pub returns-clause-zeros : goal.returns-clause-zeros
returns-clause-zeros c =
    let asked = c.args.asked.now in
    let extents = c.in_ok-extents.extents in
    let goes : resolved asked.new.words c.args.rows ≡ Ok extents = goes_ok _ c.resolved.result _ extents c.in_ok-extents.ensures (rw c.as_slice.ensures at c.resolved.ensures.extents) in
    zeros_made (named_of asked.record c.args.found.now) asked.new.words c.args.rows extents (Ok c.in_ok-view.view) goes
    (tells_test (λ (view : Table). view) c.made.result _ (Ok c.in_ok-view.view) c.in_ok-view.ensures c.made.ensures.made)

pub returns-clause-rows : goal.returns-clause-rows
returns-clause-rows c =
    let view = c.in_ok-view.view in
    let extents = c.in_ok-extents.extents in
    let same : view.extents ≡ extents = if_answered (λ (v : Table). v.extents ≡ extents) c.made.result (Ok view) c.in_ok-view.ensures c.made.ensures.extents in
    let many : length view.rows ≡ length (indices extents) = c.laws_of_table.ensures.table.rows ∙ ap (λ (e : List ℕ). length (indices e)) same in
    subst (λ (n : ℕ). IfSome c.args.rows (λ count. n ≡ count)) (sym many)
    (if_answered (λ (e : List ℕ). IfSome c.args.rows (λ count. length (indices e) ≡ count)) c.resolved.result (Ok extents) c.in_ok-extents.ensures c.resolved.ensures.rows)
