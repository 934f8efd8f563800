use Rattle.library_tests.proofs.calls.a_table_is_summed_and_laid_anew.Given as goal

abbrev pub ghosts-run_kernel : goal.ghosts-run_kernel
ghosts-run_kernel g a = record { name = a.blank.name; parts = a.blank.parts }

abbrev pub ghosts-lay_anew : goal.ghosts-lay_anew
ghosts-lay_anew g a = record { name = a.blank.name; parts = a.blank.parts }
