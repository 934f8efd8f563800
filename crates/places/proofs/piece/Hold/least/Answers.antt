use Rattle.record_dim.specs.Std.{◌≡◌, ◌-◌, true, ap, arith, ints, pow_pos}
use Rattle.record_dim.specs.Prelude.{least_in}
use Rattle.places.specs.NumbersLaws.{half_of, ones_of}
use Rattle.places.proofs.piece.Hold.least.Goals as goal

pub returns-then-self : goal.returns-then-self
returns-then-self c =
    let hold = c.args.self in
    let is : least_in hold.signed hold.width ≡ least_in true hold.width = ap (λ s. least_in s hold.width) c.if-self.true in
    omega (arith, ints, is, ones_of hold.width c.requires.narrow, pow_pos hold.width, pow_pos (hold.width - 1), half_of hold.width c.requires.some)
