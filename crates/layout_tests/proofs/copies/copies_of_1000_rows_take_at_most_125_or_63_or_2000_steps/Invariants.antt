-- the ledger that the blank opens
use Rattle.layout_tests.proofs.copies.copies_of_1000_rows_take_at_most_125_or_63_or_2000_steps.Given as goal

abbrev pub ghosts-goes_so : goal.ghosts-goes_so
ghosts-goes_so g a = record { name = a.blank.name; parts = a.blank.parts }
