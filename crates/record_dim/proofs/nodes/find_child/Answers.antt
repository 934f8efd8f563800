use Rattle.record_dim.proofs.Imports.{tree_of, fields_of, arith}
use Rattle.record_dim.proofs.Lookup.{array_place, child_of_array, child_of_field}
use Rattle.record_dim.proofs.nodes.find_child.Goals as goal

pub returns-in-Array-At-clause-few : goal.returns-in-Array-At-clause-few
returns-in-Array-At-clause-few c = grind (arith, array_place, tree_of)

pub returns-in-Array-At-clause-some : goal.returns-in-Array-At-clause-some
returns-in-Array-At-clause-some c = grind (arith, tree_of, array_place, child_of_array)

pub returns-in_ok-before-in-Fields-Name-clause-some : goal.returns-in_ok-before-in-Fields-Name-clause-some
returns-in_ok-before-in-Fields-Name-clause-some c =
    let held = tree_of c.in_ok-before-in-Fields-Name.field.now.dim in
    let first = c.in_ok-before-in-Fields-Name.before in
    let child = child_of_field (fields_of c.in-Fields-Name.fields) c.in-Fields-Name.name first held c.in_ok-before-in-Fields-Name.ensures.some in
    grind (arith, tree_of, fields_of)
