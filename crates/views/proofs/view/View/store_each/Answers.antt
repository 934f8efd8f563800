use Rattle.views.proofs.Lemmas.{◌≡◌, ◌<◌, ℤ, Ok, pos, get_or, length, map, to_z, of_z, refl, sym, ap, ◌∙◌, rules, arith, w128, get_or-map, length-map, length-with_column, told_lane, without_number, Table, answer_of, kept_of, common_steps, run_stored, whole_run, no_fault, stopped_run, value_more, nothing_stored, fault_later, fault_here, passed}
use Rattle.views.proofs.view.View.store_each.Goals as goal
use Rattle.views.proofs.view.View.store_each.Goals.{After-set_tested}

pub loop-lane-init : goal.loop-lane-init
loop-lane-init c = record { fault = refl; stored = nothing_stored c.args.leaf c.args.first c.args.self.now (map (kept_of c.args.self.now c.args.leaf) c.args.values.now) }

pub row_after-row-requires : goal.row_after-row-requires
row_after-row-requires c = grind (arith, common_steps, length-with_column)

pub set_tested-requires-clause-row_in : goal.set_tested-requires-clause-row_in
set_tested-requires-clause-row_in c = grind (arith, common_steps, length-with_column)

pub loop-lane-preserved : goal.loop-lane-preserved
loop-lane-preserved c =
    let old = c.args.self.now in
    let leaf = c.args.leaf in
    let lane = c.loop-lane.lane in
    let values = c.args.values.now in
    let value = get_or values lane (pos 0) in
    let inside : lane < length values = omega arith in
    let same = passed value c.from.result (search rules) c.from.ensures in
    let table = c.loop-lane.invariant.stored.stored in
    let taken : without_number (answer_of old leaf value) ≡ Ok tt =
    sym (ap (λ (v : ℤ). without_number (answer_of old leaf v)) same) ∙ sym (ap (λ (t : Table). without_number (answer_of t leaf (to_z w128 (of_z w128 c.from.result)))) table) ∙ sym c.set_tested.ensures.answer ∙ c.in_default.is in
    let kept : kept_of c.loop-lane.self leaf (to_z w128 (of_z w128 c.from.result)) ≡ get_or (map (kept_of old leaf) values) lane (pos 0) =
    ap (kept_of c.loop-lane.self leaf) same ∙ ap (λ (t : Table). kept_of t leaf value) table ∙ sym (get_or-map (kept_of old leaf) values lane (pos 0) (pos 0) inside) in
    record {
      fault = c.loop-lane.invariant.fault ∙ fault_later (answer_of old) leaf lane values inside taken;
      stored = value_more leaf c.args.first lane c.row_after-row.result old c.loop-lane.self c.set_tested.new.self (map (kept_of old leaf) values) _ c.loop-lane.invariant.stored
          (omega (arith, inside, length-map values (kept_of old leaf))) (omega (arith, inside, c.requires.rows_in)) c.row_after-row.ensures kept c.in_default.ensures.stored;
    }

-- the fault of a value that is refused
fault : (c : goal.After-set_tested) → without_number (answer_of c.args.self.now c.args.leaf (get_or c.args.values.now c.loop-lane.lane (pos 0))) ≡ c.set_tested.result
fault c =
    let value = get_or c.args.values.now c.loop-lane.lane (pos 0) in
    let same = passed value c.from.result (search rules) c.from.ensures in
    sym (ap (λ (v : ℤ). without_number (answer_of c.args.self.now c.args.leaf v)) same) ∙ sym (ap (λ (t : Table). without_number (answer_of t c.args.leaf (to_z w128 (of_z w128 c.from.result)))) c.loop-lane.invariant.stored.stored) ∙ sym c.set_tested.ensures.answer

pub returns-in-Err : goal.returns-in-Err
returns-in-Err c =
    let here = c.loop-lane.invariant.fault
    ∙ fault_here (answer_of c.args.self.now) c.args.leaf c.loop-lane.lane c.args.values.now c.in-Err.fault (omega arith) (fault (goal.at.returns-in-Err c).After-set_tested ∙ c.in-Err.is) in
    record {
      named = sym (ap told_lane here);
      stored = stopped_run c.args.leaf c.args.first c.args.self.now c.set_tested.new.self c.args.values.now (record { lane = c.loop-lane.lane; fault = c.in-Err.fault }) here
          (c.in-Err.ensures.refused ∙ run_stored c.args.leaf c.args.first c.loop-lane.lane c.args.self.now c.loop-lane.self c.args.values.now c.loop-lane.invariant.stored);
    }

pub returns-clause-named : goal.returns-clause-named
returns-clause-named c = grind (arith, common_steps, no_fault)

pub returns-clause-stored : goal.returns-clause-stored
returns-clause-stored c = grind (arith, common_steps, whole_run, no_fault, run_stored)
