use Rattle.c_lines.proofs.Imports.{◌≡◌, false, length, map, pos, take, low_64}
use Rattle.c_lines.proofs.unsigned.put_lows.Given as goal

abbrev pub invariant-loop-k : goal.invariant-loop-k
invariant-loop-k l = record {
  room : length l.lows ≡ 256;
  lows : take l.k l.lows ≡ map low_64 (take l.k (map (λ n. pos n) l.values));
  own : l.any ≡ false → take l.k l.lows ≡ take l.k (map (λ n. pos n) l.values);
}
