use Rattle.row_updates.proofs.Lemmas.{rules, ◌≡◌, ◌-◌, ◌<◌, ℕ, List, length, map, take, get_or, pos, sym, subst, arith, All-get_or, bound_term, IsSafe, column_writes, raised, raised_same, Table, leaf_type_of, Assign, Setting, setting_of, IsSetOf, IsRunUpdated, IsStill, lane_test, stored_still, last_stored, all_settings}
use Rattle.row_updates.proofs.run_updates.+sets_run.Goals as goal

pub returns-clause-still : goal.returns-clause-still
returns-clause-still g t c =
    let table = c.args.view.now in
    let first = c.args.run.now.first in
    let leaf = c.index-sets-before.result.leaf in
    let values = c.value_run.new.values in
    let mid = c.sets_run.new.view in
    let before = subst (λ (v : Table). IsStill v mid) c.value_run.ensures.same c.sets_run.ensures.still in
    stored_still table mid c.put_run.new.self leaf first (map (raised (leaf_type_of mid leaf)) values) (column_writes leaf first (length values)) c.requires.idle before c.put_run.ensures.stored

pub returns-clause-updated : goal.returns-clause-updated
returns-clause-updated g t c = λ all filter tested.
    let table = c.args.view.now in
    let run = c.args.run.now in
    let leaves = run.leaves.now in
    let places = run.places.now in
    let sets = c.args.sets.now in
    let values = c.value_run.new.values in
    let mid = c.sets_run.new.view in
    let after = c.put_run.new.self in
    let last = c.index-sets-before.result in
    let before : ℕ = length sets - 1 in
    let small : before < length sets = search rules in
    let long : length values ≡ c.args.count = search rules in
    let set = subst (IsSetOf table) (sym c.index-sets-before.is) (All-get_or (IsSetOf table) sets before last small c.requires.sets) in
    let safe = subst (λ (s : Assign). IsSafe leaves places (bound_term s.value)) (sym c.index-sets-before.is)
    (All-get_or (λ (s : Assign). IsSafe leaves places (bound_term s.value)) sets before last small c.requires.safe) in
    let front = (rw c.value_run.ensures.same at c.sets_run.ensures.updated) c.if-not-sets_run.false filter tested in
    let taken = (rw c.value_run.ensures.same at c.takes_run.ensures.taken) c.if-not-takes_run.false in
    let fits = (rw c.value_run.ensures.same at c.takes_run.ensures.fits) c.if-not-takes_run.false in
    subst (λ (s : List Setting). IsRunUpdated table filter s run.first c.args.count after) (all_settings sets before last (omega (arith, small)) c.index-sets-before.is)
    (last_stored table run filter c.args.count (lane_test c.args.mask) values (setting_of last) c.laws_of_table.ensures.table c.requires.idle safe set.inside c.requires.rows.rows long tested
    (c.value_run.ensures.given c.if-not-value_run.false) (map setting_of (take before sets)) mid after front taken
    (λ k l. raised_same (leaf_type_of table last.leaf) (get_or values k (pos 0)) (fits k l).declared) c.put_run.ensures.stored)
