use Rattle.linearize.proofs.Imports.{refl, arith}
use Rattle.linearize.proofs.SpreadLemmas.{stage_none, stage_more, stage_last}
use Rattle.linearize.proofs.digits.spread_by_three.Goals as goal

pub returns-clause-digits : goal.returns-clause-digits
returns-clause-digits c =
    let first = stage_none 8 c.args.component c.requires (omega arith) in
    let twos = stage_more 4 0x0c_30c3 (stage_more 8 0x00_f00f first (omega arith) (omega arith) refl) (omega arith) (omega arith) refl in
    stage_last 3 (stage_more 2 0x24_9249 twos (omega arith) (omega arith) refl) (omega arith) (omega arith) refl
