use Rattle.expr_lang.proofs.Imports.{◌∙◌, sym, ap, unwrap_or, leaf_number_is}
use Rattle.expr_lang.proofs.binding.leaf_or_first.Goals as goal

pub returns : goal.returns
returns c = c.unwrap_or.ensures ∙ ap (λ o. unwrap_or o 0) (sym (leaf_number_is _ _ _ c.leaf_of.ensures.some c.leaf_of.ensures.only))
