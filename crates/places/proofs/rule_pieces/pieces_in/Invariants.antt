-- the pieces so far
use Rattle.record_dim.specs.Std.{◌≡◌, take}
use Rattle.places.specs.PieceRules.{pieces_in}
use Rattle.places.proofs.rule_pieces.pieces_in.Given as goal

abbrev pub invariant-loop-rule : goal.invariant-loop-rule
invariant-loop-rule l = l.pieces.items ≡ pieces_in (take l.rule-index l.rules.items) l.slot
