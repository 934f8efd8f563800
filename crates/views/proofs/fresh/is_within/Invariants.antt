use Rattle.views.proofs.Imports.{◌≡◌, ◌+◌, ◌*◌, length, take, sum_by, Owner}
use Rattle.views.proofs.fresh.is_within.Given as goal

abbrev pub invariant-loop-blob : goal.invariant-loop-blob
invariant-loop-blob g l = 8 * l.left + sum_by (length {A = Owner}) (take l.blob (g.M.Mapping.layout l.mapping)) ≡ 8 * l.most
