use Rattle.command_checks.proofs.Imports.{◌∙◌, ap, length-map, slice_get_within, leaf_number_is, some_or, Unknown, Path, common_steps, arith}
use Rattle.command_checks.proofs.leaves.leaf_of.Goals as goal

pub returns-in-Some-clause-leaf : goal.returns-in-Some-clause-leaf
returns-in-Some-clause-leaf c =
    let number = leaf_number_is _ _ _ c.leaf_of.ensures.some c.leaf_of.ensures.only ∙ c.in-Some.is in
    ap (some_or (Unknown (Path c.args.path.now))) (rw c.schema.ensures.value at number)

pub returns-in-Some-clause-inside : goal.returns-in-Some-clause-inside
returns-in-Some-clause-inside c = grind (arith, common_steps, slice_get_within, length-map)

pub returns-in_ok-copy-in-None-clause-leaf : goal.returns-in_ok-copy-in-None-clause-leaf
returns-in_ok-copy-in-None-clause-leaf c =
    let number = leaf_number_is _ _ _ c.leaf_of.ensures.some c.leaf_of.ensures.only ∙ c.in-None.is in
    let told = ap (some_or (Unknown (Path c.args.path.now))) (rw c.schema.ensures.value at number) in
    rw (c.unknown_path.ensures, c.in_ok-copy-in-None.ensures) told
