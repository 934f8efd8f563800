use Rattle.library_tests.proofs.deep.is_run.Given as goal

abbrev pub ghosts-run_kernel : goal.ghosts-run_kernel
ghosts-run_kernel a = record { name = a.blank.name; parts = a.blank.parts }
