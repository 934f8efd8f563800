use Rattle.actors.proofs.Lemmas.{rules, ◌≡◌, ◌∙◌, ◌∷◌, [], ℤ, List, pos, get_or, FitsSigned, Result, Ok, sym, ap, subst, w128, to_z-of_z, with_entry, IsSetOf, without_number, kept_or, Table, answer_of, after_stores, Write, StoreFault, row_held, none_stored, one_stored}
use Rattle.actors.proofs.back.store_row.Goals as goal

pub loop-set-init : goal.loop-set-init
loop-set-init g c = none_stored c.args.view.now c.args.row

pub loop-set-preserved : goal.loop-set-preserved
loop-set-preserved g c =
    let table = c.args.view.now in
    let here = c.loop-set.view in
    let row = c.args.row in
    let one = c.set-item.result in
    let held = row_held table c.args.memory.now row in
    let value = get_or c.read_held.new.values one.leaf (pos 0) in
    let fits : FitsSigned w128 value = search rules in
    let is_set = subst (IsSetOf table) (sym c.set-item.is) (c.requires.sets c.loop-set.set-index one c.loop-set-test.true) in
    let value_is : value ≡ get_or held one.leaf (pos 0) = ap (λ (w : List ℤ). get_or w one.leaf (pos 0)) c.read_held.ensures.row in
    let takes : answer_of here one.leaf value ≡ Ok value =
    ap (λ (t : Table). answer_of t one.leaf value) c.loop-set.invariant ∙ ap (answer_of table one.leaf) value_is ∙ c.requires.stays one.leaf is_set.inside ∙ ap (λ (v : ℤ). Ok v) (sym value_is) in
    let answer = rw (to_z-of_z w128 value fits) at c.set-taken.ensures.answer in
    let stored = rw (answer ∙ ap without_number takes, to_z-of_z w128 value fits) at c.set-taken.ensures.stored in
    let new_is : c.set-taken.new.self ≡ after_stores here (with_entry here.rows row one.leaf value) (Write row one.leaf ∷ []) =
    stored ∙ ap (λ (k : Result ℤ StoreFault). after_stores here (with_entry here.rows row one.leaf (kept_or value k)) (Write row one.leaf ∷ [])) takes in
    one_stored table here c.set-taken.new.self row c.loop-set.set-index c.args.sets.now one held value c.loop-set-test.true c.set-item.is c.requires.row_in value_is c.loop-set.invariant new_is
