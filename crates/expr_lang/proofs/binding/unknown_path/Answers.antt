use Rattle.expr_lang.proofs.Imports.{◌∙◌, sym, paths_of, schema_fields, leaf_number_is}
use Rattle.expr_lang.proofs.Unknown.{first-unknown_path}
use Rattle.expr_lang.proofs.binding.unknown_path.Goals as goal

pub returns-in-Some : goal.returns-in-Some
returns-in-Some c =
    let paths = paths_of (schema_fields c.args.schema.now) in
    sym (first-unknown_path paths c.args.path.now _ (leaf_number_is _ _ _ c.leaf_of.ensures.some c.leaf_of.ensures.only ∙ c.in-Some.is))

pub returns-in-None : goal.returns-in-None
returns-in-None c =
    let paths = paths_of (schema_fields c.args.schema.now) in
    sym (first-unknown_path paths c.args.path.now _ (leaf_number_is _ _ _ c.leaf_of.ensures.some c.leaf_of.ensures.only ∙ c.in-None.is))
