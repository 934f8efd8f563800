-- what is written so far, and the rows that are left, are all
use Rattle.layout_cli.proofs.Imports.{◌≡◌, ◌++◌, ◌-◌, range_with_len, row_text, dataset_text}
use Rattle.record_dim.specs.Std.{flat_map}
use Rattle.layout_cli.proofs.dataset.gen_dataset.Given as goal

abbrev pub invariant-loop-row : goal.invariant-loop-row
invariant-loop-row l = l.text ++ flat_map row_text (range_with_len l.row (l.n - l.row)) ≡ dataset_text l.n
