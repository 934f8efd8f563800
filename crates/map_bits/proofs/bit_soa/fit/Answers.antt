use Rattle.map_bits.proofs.Lemmas.{◌+◌, arith, widths_in, bits_next, bits_below}
use Rattle.map_bits.proofs.bit_soa.fit.Goals as goal

pub returns-then-bits-gt-MAX_BLOB_BITS : goal.returns-then-bits-gt-MAX_BLOB_BITS
returns-then-bits-gt-MAX_BLOB_BITS c =
    let next = bits_next c.args.slots c.args.holds.now c.loop-hold.hold-index _ c.loop-hold.bits c.from.result
    c.padded-bits.result (omega (arith, c.loop-hold-test.true)) c.from.ensures c.padded-bits.ensures c.loop-hold.invariant.sum in
    let below = bits_below c.args.slots (widths_in c.args.holds.now) (c.loop-hold.hold-index + 1) in grind arith

pub loop-hold-preserved : goal.loop-hold-preserved
loop-hold-preserved c = grind (arith, bits_next)
