use Rattle.map_bits.proofs.Lemmas.{◌+◌, ◌<◌, length, arith, widths_in, end_next, end_below, begins_more}
use Rattle.map_bits.proofs.part.lay_out.Goals as goal

pub returns-then-end-gt-MAX_BLOB_BITS-clause-too_big :
    goal.returns-then-end-gt-MAX_BLOB_BITS-clause-too_big
returns-then-end-gt-MAX_BLOB_BITS-clause-too_big c =
    let inside : c.loop-hold.hold-index < length c.args.holds.now = omega (arith, c.loop-hold-test.true) in
    let next = end_next c.args.holds.now c.loop-hold.hold-index _ c.loop-hold.end c.from-end.result inside c.from-end.ensures c.loop-hold.invariant.ends in
    λ _. omega (arith, next, end_below (widths_in c.args.holds.now) (c.loop-hold.hold-index + 1), c.if-end-gt-MAX_BLOB_BITS.true)

pub loop-hold-preserved : goal.loop-hold-preserved
loop-hold-preserved c =
    let inside : c.loop-hold.hold-index < length c.args.holds.now = omega (arith, c.loop-hold-test.true) in
    record {
      begins = begins_more (widths_in c.args.holds.now) c.loop-hold.offsets.items _ c.loop-hold.hold-index c.loop-hold.end
          c.loop-hold.invariant.begins c.loop-hold.invariant.ends c.in_ok-push.ensures.items;
      ends = end_next c.args.holds.now c.loop-hold.hold-index _ c.loop-hold.end c.from-end.result inside c.from-end.ensures c.loop-hold.invariant.ends;
      small = omega (arith, c.if-end-gt-MAX_BLOB_BITS.false);
    }
