use Rattle.subviews.proofs.Lemmas.{◌≡◌, length, AreFar}
use Rattle.subviews.proofs.far.all_far.Given as goal

abbrev pub invariant-loop-place : goal.invariant-loop-place
invariant-loop-place l = record { long : length l.far ≡ 64; far : AreFar l.window l.terms l.far l.place }
