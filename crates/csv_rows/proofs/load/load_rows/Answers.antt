use Rattle.csv_rows.proofs.FirstFaults.{load_taken}
use Rattle.csv_rows.proofs.load.load_rows.Goals as goal

pub returns-then-has_quote-clause-taken : goal.returns-then-has_quote-clause-taken
returns-then-has_quote-clause-taken g c = load_taken c.args.view.now _ c.load_from.result c.load_from.ensures.refused

pub returns-clause-taken : goal.returns-clause-taken
returns-clause-taken g c = load_taken c.args.view.now _ c.load_from-2.result c.load_from-2.ensures.refused
