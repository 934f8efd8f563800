use Rattle.record_dim.specs.Std.{◌≡◌, ◌+◌, ◌^◌, ◌<◌, take, digits_value}
use Rattle.line_tokens.proofs.token.value_of.Given as goal

abbrev pub invariant-loop-byte : goal.invariant-loop-byte
invariant-loop-byte l = (l.value ≡ digits_value 10 (take l.byte-index l.digits)) × (l.value < 2 ^ 127 + 9)
