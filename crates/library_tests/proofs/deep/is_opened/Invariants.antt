use Rattle.library_tests.proofs.deep.is_opened.Given as goal

abbrev pub ghosts-open_view : goal.ghosts-open_view
ghosts-open_view a = record { name = a.blank.name; parts = a.blank.parts }
