-- the bytes so far
use Rattle.map_bytes.proofs.Imports.{◌≡◌, take, byte_count}
use Rattle.map_bytes.proofs.bytesplit.count_bytes.Given as goal

abbrev pub invariant-loop-cell : goal.invariant-loop-cell
invariant-loop-cell l = l.count ≡ byte_count (take l.cell-index l.cells)
