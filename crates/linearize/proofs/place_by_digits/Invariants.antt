use Rattle.linearize.proofs.MortonLemmas.{IsFront}
use Rattle.linearize.proofs.place_by_digits.Given as goal

abbrev pub invariant-loop-d : goal.invariant-loop-d
invariant-loop-d l = IsFront l.index l.d l.place
