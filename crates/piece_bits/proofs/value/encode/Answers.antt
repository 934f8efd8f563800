use Rattle.piece_bits.proofs.Lemmas.{arith, ints, ones_of, encoded}
use Rattle.piece_bits.proofs.value.encode.Goals as goal

pub returns-then-value-ge0 : goal.returns-then-value-ge0
returns-then-value-ge0 c =
    let hold = c.args.hold in
    encoded hold.signed hold.width c.args.value _ c.requires.some c.requires.fits
    (λ n is small. omega (arith, ints))
    (λ n is small. absurd (omega (arith, ints)))

pub returns-else-value-ge0 : goal.returns-else-value-ge0
returns-else-value-ge0 c =
    let hold = c.args.hold in
    encoded hold.signed hold.width c.args.value _ c.requires.some c.requires.fits
    (λ n is small. absurd (omega (arith, ints)))
    (λ n is small. omega (arith, ints, ones_of hold.width c.requires.narrow))
