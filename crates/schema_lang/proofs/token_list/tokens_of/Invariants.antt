-- the tokens of the spots so far
use Rattle.schema_lang.proofs.Imports.{◌≡◌, take, tokens_of}
use Rattle.schema_lang.proofs.token_list.tokens_of.Given as goal

abbrev pub invariant-loop-spot : goal.invariant-loop-spot
invariant-loop-spot l = l.tokens.items ≡ tokens_of l.text (take l.spot-index l.spots)
