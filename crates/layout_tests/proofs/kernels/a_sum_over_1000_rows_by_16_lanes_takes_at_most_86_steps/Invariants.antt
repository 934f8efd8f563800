-- the ledger that the blank opens
use Rattle.layout_tests.proofs.kernels.a_sum_over_1000_rows_by_16_lanes_takes_at_most_86_steps.Given as goal

abbrev pub ghosts-sum_of_numbers : goal.ghosts-sum_of_numbers
ghosts-sum_of_numbers g a = record { name = a.blank.name; parts = a.blank.parts }
