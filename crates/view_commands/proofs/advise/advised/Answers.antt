use Rattle.view_commands.proofs.Imports.{slice_index_or, nameless_built, term_of}
use Rattle.view_commands.proofs.advise.advised.Goals as goal

pub advise-requires-clause-built : goal.advise-requires-clause-built
advise-requires-clause-built g c = λ k d inside. nameless_built (term_of (slice_index_or c.args.question.now.exprs k d)) (c.requires.nameless k d inside)
