use Rattle.linearize.proofs.Imports.{refl, arith}
use Rattle.linearize.proofs.SpreadLemmas.{stage_none, stage_more, stage_last}
use Rattle.linearize.proofs.digits.spread_by_four.Goals as goal

pub returns-clause-digits : goal.returns-clause-digits
returns-clause-digits c =
    let first = stage_none 6 c.args.component c.requires (omega arith) in
    let twos = stage_more 6 0x03_0303 (stage_more 12 0x03_000f first (omega arith) (omega arith) refl) (omega arith) (omega arith) refl in
    stage_last 4 (stage_more 3 0x11_1111 twos (omega arith) (omega arith) refl) (omega arith) (omega arith) refl
