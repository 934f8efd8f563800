use Rattle.blob_file.proofs.Lemmas.{inr, length, map, indices, IsLaidOut, Hold, owners_of, table_holds, common_steps, arith, refused_number, opened_view, other_view, steps_taken}
use Rattle.blob_file.proofs.open.fill_from.Goals as goal

pub returns-in_err-fill_rows-clause-read : goal.returns-in_err-fill_rows-clause-read
returns-in_err-fill_rows-clause-read g c = grind (arith, common_steps, refused_number)

pub returns-then-has_blobs : goal.returns-then-has_blobs
returns-then-has_blobs g c =
    let table = c.args.view.now in
    let laid : IsLaidOut (owners_of table) (length (indices table.extents)) (map (λ (h : Hold). h.width) (table_holds table)) = rw (c.map.ensures.layout, c.map.ensures.slots, c.map.ensures.holds) at c.laws_of.ensures.lawful in
    let new = c.fill_rows.new.view in
    let taken = c.in_ok-fill_rows.ensures.taken in
    let stored = c.in_ok-fill_rows.ensures.stored in
    record {
      read = opened_view table laid c.laws_of_table.ensures.paired c.requires.empty c.args.blobs.now new taken stored (c.has_blobs.ensures.own c.if-has_blobs.true);
      steps = steps_taken table laid c.laws_of_table.ensures.paired c.requires.empty c.args.blobs.now new taken stored c.args.steps.now c.fill_rows.new.steps c.in_ok-fill_rows.ensures.steps;
    }

pub returns-else-has_blobs-clause-read : goal.returns-else-has_blobs-clause-read
returns-else-has_blobs-clause-read g c =
    let table = c.args.view.now in
    let laid : IsLaidOut (owners_of table) (length (indices table.extents)) (map (λ (h : Hold). h.width) (table_holds table)) = rw (c.map.ensures.layout, c.map.ensures.slots, c.map.ensures.holds) at c.laws_of.ensures.lawful in
    inr (other_view table laid c.laws_of_table.ensures.paired c.requires.empty c.args.blobs.now c.fill_rows.new.view c.in_ok-fill_rows.ensures.taken c.in_ok-fill_rows.ensures.stored (c.has_blobs.ensures.other c.if-has_blobs.false))
