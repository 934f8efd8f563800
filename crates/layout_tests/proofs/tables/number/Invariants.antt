-- the view lies as at first, in the same mode
use Rattle.record_dim.specs.Std.{◌≡◌}
use Rattle.layout_tests.proofs.tables.number.Given as goal

abbrev pub invariant-loop-row : goal.invariant-loop-row
invariant-loop-row g l = record {
  mapping : l.view.mapping ≡ l.initial.view.mapping;
  mode : l.view.mode ≡ l.initial.view.mode;
}
