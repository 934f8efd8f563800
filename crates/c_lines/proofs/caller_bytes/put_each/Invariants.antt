use Rattle.c_lines.proofs.Imports.{◌≡◌, ◌*◌, take, length, bytes_of_numbers}
use Rattle.c_lines.proofs.caller_bytes.put_each.Given as goal

abbrev pub invariant-loop-k : goal.invariant-loop-k
invariant-loop-k l = record {
  room : length l.bytes ≡ l.size * length l.numbers;
  put : take (l.size * l.k) l.bytes ≡ bytes_of_numbers l.size (take l.k l.numbers);
}
