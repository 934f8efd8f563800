use Rattle.row_updates.proofs.Lemmas.{rules, ◌≡◌, ◌∙◌, ℕ, ◌∷◌, [], length, sym, ap, subst, first_lane_fault, stored_count, answer_of, setting_of, IsRunUpdated, lane_test, lone_stored, told_none, told_some}
use Rattle.row_updates.proofs.run_updates.lone_run.Goals as goal

pub returns-in-Ok-clause-updated : goal.returns-in-Ok-clause-updated
returns-in-Ok-clause-updated g c = λ filter tested.
    let table = c.args.view.now in
    let run = c.args.run.now in
    let last = setting_of c.args.set.now in
    let values = c.value_run.new.values in
    let long : length values ≡ c.args.count = search rules in
    let named = rw c.value_run.ensures.same at c.store_run.ensures.named in
    let none = told_none (first_lane_fault (answer_of table) last.leaf 0 values) _ (sym named ∙ c.in-Ok.is) in
    subst (λ (n : ℕ). IsRunUpdated table filter (last ∷ []) run.first n c.store_run.new.self) (ap (stored_count (length values)) none ∙ long)
    (lone_stored table run filter c.args.count (lane_test c.args.mask) values last c.laws_of_table.ensures.table c.requires.idle c.requires.safe c.requires.set.inside c.requires.rows.rows long tested
    (c.value_run.ensures.given c.if-not-value_run.false) c.store_run.new.self (rw c.value_run.ensures.same at c.store_run.ensures.stored))

pub returns-in-Err-clause-updated : goal.returns-in-Err-clause-updated
returns-in-Err-clause-updated g c = λ filter tested.
    let table = c.args.view.now in
    let run = c.args.run.now in
    let last = setting_of c.args.set.now in
    let values = c.value_run.new.values in
    let long : length values ≡ c.args.count = search rules in
    let named = rw c.value_run.ensures.same at c.store_run.ensures.named in
    let some = told_some (first_lane_fault (answer_of table) last.leaf 0 values) c.in-Err.fault (sym named ∙ c.in-Err.is) in
    subst (λ (n : ℕ). IsRunUpdated table filter (last ∷ []) run.first n c.store_run.new.self) (ap (stored_count (length values)) some)
    (lone_stored table run filter c.args.count (lane_test c.args.mask) values last c.laws_of_table.ensures.table c.requires.idle c.requires.safe c.requires.set.inside c.requires.rows.rows long tested
    (c.value_run.ensures.given c.if-not-value_run.false) c.store_run.new.self (rw c.value_run.ensures.same at c.store_run.ensures.stored))
