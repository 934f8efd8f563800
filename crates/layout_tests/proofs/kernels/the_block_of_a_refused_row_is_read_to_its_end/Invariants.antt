-- the ledger that the blank opens
use Rattle.layout_tests.proofs.kernels.the_block_of_a_refused_row_is_read_to_its_end.Given as goal

abbrev pub ghosts-reads_so : goal.ghosts-reads_so
ghosts-reads_so g a = record { name = a.blank.name; parts = a.blank.parts }
