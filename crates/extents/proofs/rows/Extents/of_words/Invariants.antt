use Rattle.extents.proofs.Imports.{◌≡◌, ◌<◌, ◌^◌, map, take, All, extent_of, padded}
use Rattle.extents.proofs.rows.Extents.of_words.Given as goal

abbrev pub invariant-loop-d : goal.invariant-loop-d
invariant-loop-d l = (l.sizes ≡ padded (map (extent_of l.size) (take l.d l.words))) × All (λ n. n < 2 ^ 32) l.sizes
