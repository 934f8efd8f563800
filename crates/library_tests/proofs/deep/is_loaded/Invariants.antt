use Rattle.library_tests.proofs.deep.is_loaded.Given as goal

abbrev pub ghosts-loaded_view : goal.ghosts-loaded_view
ghosts-loaded_view a = record { name = a.blank.name; parts = a.blank.parts }
