use Rattle.blobs.proofs.Lemmas.{◌≡◌, length, take, drop, arith, length-take, length-drop, copied}
use Rattle.blobs.proofs.blob.Blob.copy_block.Goals as goal

pub returns : goal.returns
returns c =
    let at = c.args.at in
    let len = c.args.len in
    let old = c.args.self.now in
    let part = take len (drop c.args.from c.args.source.now) in
    let same : take len c.loop-k.block ≡ part =
    copied c.loop-k.block c.args.source.now c.args.from len (omega (arith, c.loop-k.invariant.long)) c.requires.there
    (λ j h. c.loop-k.invariant.copied j (omega arith)) in
    let size : length part ≡ len = omega (arith, length-take len (drop c.args.from c.args.source.now), length-drop c.args.from c.args.source.now) in
    grind arith
