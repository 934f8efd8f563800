use Rattle.session_runs.proofs.script.run_behind.Goals as goal

pub returns-clause-run : goal.returns-clause-run
returns-clause-run g c = λ files told. c.run_lines.ensures.run files _ told c.new.ensures
