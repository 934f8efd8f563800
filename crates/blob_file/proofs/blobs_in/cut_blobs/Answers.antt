use Rattle.blob_file.proofs.Lemmas.{arith, ◌<◌, length, none_cut, room, one_cut}
use Rattle.blob_file.proofs.blobs_in.cut_blobs.Goals as goal

pub loop-b-init : goal.loop-b-init
loop-b-init g c = rw c.new-blobs.ensures.items (none_cut (g.M.Mapping.layout c.args.map.now) c.laws_of.ensures.lawful.whole_bytes c.args.body.now c.requires)

pub split_at-requires : goal.split_at-requires
split_at-requires g c =
    let layout = g.M.Mapping.layout c.args.map.now in
    let inside : c.loop-b.b < length layout = omega arith in
    room layout c.laws_of.ensures.lawful.whole_bytes c.args.body.now c.requires c.loop-b.b c.blob_bytes.result c.loop-b.blobs.items c.loop-b.rest.now inside c.blob_bytes.ensures c.loop-b.invariant

pub loop-b-preserved : goal.loop-b-preserved
loop-b-preserved g c =
    let layout = g.M.Mapping.layout c.args.map.now in
    let inside : c.loop-b.b < length layout = omega arith in
    rw (c.in_ok-push.ensures.items, c.in_ok-blob_of.ensures, c.split_at.ensures.front, c.split_at.ensures.back)
    (one_cut layout c.laws_of.ensures.lawful.whole_bytes c.args.body.now c.requires c.loop-b.b c.blob_bytes.result c.loop-b.blobs.items c.loop-b.rest.now inside c.blob_bytes.ensures c.loop-b.invariant)
