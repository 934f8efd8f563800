use Rattle.row_updates.proofs.Imports.{◌≡◌, length, take}
use Rattle.row_updates.proofs.index.put_all.Given as goal

abbrev pub invariant-loop-d : goal.invariant-loop-d
invariant-loop-d l = record { same : take l.d l.numbers ≡ take l.d l.index; long : length l.numbers ≡ 4 }
