use Rattle.extents.proofs.Imports.{◌≡◌, ◌≤◌, ◌^◌, map, take, product, extent_of}
use Rattle.extents.proofs.words.fixed_product.Given as goal

abbrev pub invariant-loop-word : goal.invariant-loop-word
invariant-loop-word l = (l.product ≡ product (map (extent_of 1) (take l.word-index l.words))) × (l.product ≤ 4294967295 ^ l.word-index)
