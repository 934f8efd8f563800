use Rattle.blob_file.proofs.Lemmas.{rules, arith, ◌<◌, ℕ, List, [], IsErr, length, ap, Puts-loop_err, Puts-loop_ok, Owner, owners_of, blobs_of, common_steps, blob_saved, blob_count, part_more, has_put}
use Rattle.blob_file.proofs.save.put_blobs.Goals as goal

pub returns-in_err-put_blob : goal.returns-in_err-put_blob
returns-in_err-put_blob g c =
    let table = c.args.view.now in
    let err : IsErr c.from_residual.result = search rules in
    let inside : c.loop-b.b < length (owners_of table) = omega (arith, ap (length {A = List Owner}) c.map.ensures.layout, c.blob_count-b-end.ensures) in
    let small : c.loop-b.b < length (blobs_of table) = omega (arith, inside, blob_count table) in
    let is = blob_saved table c.loop-b.b c.blob-blob.result.now inside c.bytes_law.ensures c.blob-blob.ensures in
    Puts-loop_err c.from_residual.result (λ (blob : List ℕ). blob) (blobs_of table) c.loop-b.b [] small err c.loop-b.invariant (rw is at c.in_err-put_blob.ensures)

pub loop-b-preserved : goal.loop-b-preserved
loop-b-preserved g c =
    let table = c.args.view.now in
    let inside : c.loop-b.b < length (owners_of table) = omega (arith, ap (length {A = List Owner}) c.map.ensures.layout, c.blob_count-b-end.ensures) in
    let small : c.loop-b.b < length (blobs_of table) = omega (arith, inside, blob_count table) in
    let is = blob_saved table c.loop-b.b c.blob-blob.result.now inside c.bytes_law.ensures c.blob-blob.ensures in
    part_more (λ (blob : List ℕ). blob) (blobs_of table) c.loop-b.b [] small c.loop-b.invariant (rw is at c.in_ok-put_blob.ensures)

pub returns : goal.returns
returns g c = grind (arith, common_steps, blob_count, has_put, Puts-loop_ok)
