use Rattle.library_tests.proofs.deep.is_shown.Given as goal

abbrev pub ghosts-put_table : goal.ghosts-put_table
ghosts-put_table a = record { name = a.blank.name; parts = a.blank.parts }
