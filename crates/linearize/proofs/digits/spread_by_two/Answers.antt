use Rattle.linearize.proofs.Imports.{refl, arith}
use Rattle.linearize.proofs.SpreadLemmas.{stage_none, stage_more, stage_last}
use Rattle.linearize.proofs.digits.spread_by_two.Goals as goal

pub returns-clause-digits : goal.returns-clause-digits
returns-clause-digits c =
    let eights = stage_more 8 0x0f_00ff (stage_none 12 c.args.component c.requires (omega arith)) (omega arith) (omega arith) refl in
    let twos = stage_more 2 0x33_3333 (stage_more 4 0x0f_0f0f eights (omega arith) (omega arith) refl) (omega arith) (omega arith) refl in
    stage_last 2 (stage_more 1 0x55_5555 twos (omega arith) (omega arith) refl) (omega arith) (omega arith) refl
