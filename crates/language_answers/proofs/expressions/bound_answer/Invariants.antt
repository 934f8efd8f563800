use Rattle.language_answers.proofs.expressions.bound_answer.Given as goal

abbrev pub ghosts-outcome : goal.ghosts-outcome
ghosts-outcome a = record { name = a.blank.name; parts = a.blank.parts }
