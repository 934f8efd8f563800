use Rattle.blob_file.proofs.Lemmas.{rules, arith, ◌≡◌, ◌∙◌, ◌++◌, ℕ, length, take, drop, ap, length-take-le, length-drop, length-append, block_written}
use Rattle.blob_file.proofs.save.write_blob.Goals as goal

pub loop-done-preserved : goal.loop-done-preserved
loop-done-preserved g c =
    let blob = c.args.blob.now in
    let done = c.loop-done.done in
    let len = c.min-len.result in
    let is : c.copy_out.new.bytes ≡ take len (drop done blob) = search rules in
    let long : length c.copy_out.new.bytes ≡ len = ap (length {A = ℕ}) is ∙ length-take-le len (drop done blob) (omega (arith, length-drop done blob)) in
    let room : length (c.copy_out.new.bytes ++ drop len c.loop-done.block) ≡ 16384 =
    omega (arith, length-append c.copy_out.new.bytes (drop len c.loop-done.block), length-drop len c.loop-done.block, long, c.loop-done.invariant.room) in
    record {
      within = omega arith;
      room = room;
      wrote = block_written blob c.copy_out.new.bytes done len is c.loop-done.invariant.wrote c.in_ok-write_all.ensures.writes;
    }
