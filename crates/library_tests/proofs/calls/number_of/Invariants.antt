use Rattle.library_tests.proofs.calls.number_of.Given as goal

abbrev pub ghosts-do_line : goal.ghosts-do_line
ghosts-do_line a = record { name = a.blank.name; parts = a.blank.parts }
