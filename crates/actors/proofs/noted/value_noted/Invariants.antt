use Rattle.actors.proofs.noted.value_noted.Given as goal

abbrev pub ghosts-value_counted : goal.ghosts-value_counted
ghosts-value_counted a = record { name = a.blank.name; parts = a.blank.parts }
