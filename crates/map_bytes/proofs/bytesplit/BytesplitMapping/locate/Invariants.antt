-- the pieces of the bytes so far, one for each
use Rattle.map_bytes.proofs.Imports.{◌≡◌, ◌*◌, length, widths_of, IsLocated, bytesplit}
use Rattle.map_bytes.proofs.bytesplit.BytesplitMapping.locate.Given as goal

abbrev pub invariant-loop-byte : goal.invariant-loop-byte
invariant-loop-byte g l =
    IsLocated (bytesplit (widths_of l.self.cells.items) (g.M.Mapping.layout l.self.inner)) l.slot l.cell (8 * l.byte) l.pieces.items
    × (length l.pieces.items ≡ l.byte)
