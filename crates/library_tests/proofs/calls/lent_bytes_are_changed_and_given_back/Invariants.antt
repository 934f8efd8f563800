use Rattle.library_tests.proofs.calls.lent_bytes_are_changed_and_given_back.Given as goal

abbrev pub ghosts-give_back : goal.ghosts-give_back
ghosts-give_back g a = record { name = a.blank.name; parts = a.blank.parts }
