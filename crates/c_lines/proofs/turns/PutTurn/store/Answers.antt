use Rattle.c_lines.proofs.Lemmas.{rules, SFits, w128, to_z-of_z, after_write, store_told, left_by_store, leaves_still, rows_still}
use Rattle.c_lines.proofs.turns.PutTurn.store.Goals as goal

pub returns : goal.returns
returns g c =
    let old = c.args.view.now in
    let row = c.args.row in
    let leaf = c.args.leaf in
    let value = c.args.value in
    let fits : SFits w128 value = search rules in
    let plain = to_z-of_z w128 value fits in
    let told = rw plain at c.put.ensures.told in
    let written = rw plain at c.put.ensures.written in
    let left = left_by_store (store_told row leaf value old) c.put.result (after_write old row leaf value) old c.put.new.view told written c.put.ensures.kept in
    record {
      answer = told;
      left = left;
      rows = rows_still (store_told row leaf value old) row leaf value old c.put.new.view left;
      leaves = leaves_still (store_told row leaf value old) row leaf value old c.put.new.view left;
    }
