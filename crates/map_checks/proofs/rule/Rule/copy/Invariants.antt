-- the pieces so far
use Rattle.map_checks.proofs.Imports.{◌≡◌, take}
use Rattle.map_checks.proofs.rule.Rule.copy.Given as goal

abbrev pub invariant-loop-piece : goal.invariant-loop-piece
invariant-loop-piece l = l.pieces.items ≡ take l.piece-index l.self.pieces.items
