use Rattle.c_lines.proofs.Lemmas.{rules, arith, ◌≡◌, ◌<◌, ℕ, List, length, length-append, take, [], ap, get_or, owners_of, joined, blobs_of, flat_map_push, blob_in, blobs_count, has_room, one_put}
use Rattle.c_lines.proofs.blob_bytes.put_blobs.Goals as goal

pub put_bytes-requires : goal.put_bytes-requires
put_bytes-requires c =
    let table = c.args.view.now in
    let owned : c.loop-b.b < length (owners_of table) = omega arith in
    let inside : c.loop-b.b < length (blobs_of table) = omega (arith, owned, blobs_count table) in
    let bytes = c.blob_of-blob.result.now in
    has_room (blobs_of table) c.loop-b.b inside c.args.buffer.now c.loop-b.buffer bytes (blob_in table c.loop-b.b bytes owned c.blob_of-blob.ensures) c.loop-b.done c.loop-b.invariant.done
    c.loop-b.invariant.put c.requires

pub loop-b-preserved : goal.loop-b-preserved
loop-b-preserved c =
    let table = c.args.view.now in
    let owned : c.loop-b.b < length (owners_of table) = omega arith in
    let inside : c.loop-b.b < length (blobs_of table) = omega (arith, owned, blobs_count table) in
    let bytes = c.blob_of-blob.result.now in
    let is = blob_in table c.loop-b.b bytes owned c.blob_of-blob.ensures in
    let len : c.len-done.result ≡ length bytes = search rules in
    record {
      done =
          omega (
            arith,
            len,
            c.loop-b.invariant.done,
            ap (length {A = ℕ}) is,
            ap (length {A = ℕ}) (flat_map_push (λ (blob : List ℕ). blob) (blobs_of table) c.loop-b.b [] inside),
            length-append (joined (take c.loop-b.b (blobs_of table))) (get_or (blobs_of table) c.loop-b.b []),
          );
      put = rw len (one_put (blobs_of table) c.loop-b.b inside c.args.buffer.now c.loop-b.buffer bytes is c.loop-b.done c.loop-b.invariant.done c.loop-b.invariant.put c.put_bytes.new.buffer c.put_bytes.ensures);
    }
