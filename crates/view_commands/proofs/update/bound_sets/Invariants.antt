use Rattle.view_commands.proofs.Imports.{◌≡◌, length, map, take, assignment_of, IsSetOf, setting_of, bound_sets, Ok, All}
use Rattle.view_commands.proofs.update.bound_sets.Given as goal

abbrev pub invariant-loop-set : goal.invariant-loop-set
invariant-loop-set l = record {
  sets : bound_sets l.view.fields (length l.view.extents) (map assignment_of (take l.set-index l.sets)) ≡ Ok (map setting_of l.bound.items);
  over : All (IsSetOf l.view) l.bound.items;
}
