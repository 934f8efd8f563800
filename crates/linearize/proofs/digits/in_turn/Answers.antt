use Rattle.linearize.proofs.Imports.{ℕ, ◌+◌, ◌*◌, ◌%◌, ◌^◌, refl, arith}
use Rattle.linearize.proofs.SpreadLemmas.{stage_none}
use Rattle.linearize.proofs.PairLemmas.{ArePaired, pair_more, pair_last}
use Rattle.linearize.proofs.digits.in_turn.Goals as goal

pub returns : goal.returns
returns c =
    let line : ℕ = c.args.line in
    let column : ℕ = c.args.column in
    let first : ArePaired 12 (λ k. k) line column (line * 2 ^ 32 % 2 ^ 64 + column) = record {
      upper = line;
      lower = column;
      first = stage_none 12 line c.requires.line (omega arith);
      second = stage_none 12 column c.requires.column (omega arith);
      is = omega arith;
    } in
    let eights = pair_more 8 0x0f_00ff 0x000f_00ff_000f_00ff first refl (omega arith) (omega arith) refl in
    let fours = pair_more 4 0x0f_0f0f 0x000f_0f0f_000f_0f0f eights refl (omega arith) (omega arith) refl in
    let twos = pair_more 2 0x33_3333 0x0033_3333_0033_3333 fours refl (omega arith) (omega arith) refl in
    pair_last (pair_more 1 0x55_5555 0x0055_5555_0055_5555 twos refl (omega arith) (omega arith) refl) refl refl
