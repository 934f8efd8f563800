-- the ledger that the blank opens
use Rattle.layout_tests.proofs.deep_expressions.long_chains_take_little_stack.Given as goal

abbrev pub ghosts-value : goal.ghosts-value
ghosts-value g a = record { name = a.blank.name; parts = a.blank.parts }
