-- what is left once the blobs so far are taken off
use Rattle.record_dim.specs.Std.{◌≡◌, ◌+◌, ◌*◌, length, sum_by, take}
use Rattle.map_split.proofs.bytes.bytes_left.Given as goal

abbrev pub invariant-loop-blob : goal.invariant-loop-blob
invariant-loop-blob g l = 8 * l.left + sum_by length (take l.blob (g.M.Mapping.layout l.mapping)) ≡ 8 * l.most
