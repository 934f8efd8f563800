use Rattle.linearize.proofs.Imports.{◌≡◌, ◌-◌, ◌^◌, min, take, product}
use Rattle.linearize.proofs.saturating_product.Given as goal

abbrev pub invariant-loop-extent : goal.invariant-loop-extent
invariant-loop-extent l = l.count ≡ min (product (take l.extent-index l.extents)) (2 ^ 64 - 1)
