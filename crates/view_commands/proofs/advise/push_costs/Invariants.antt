use Rattle.view_commands.proofs.Imports.{◌≡◌, ◌++◌, take, flat_map, enumerate_from, cost_line}
use Rattle.view_commands.proofs.advise.push_costs.Given as goal

abbrev pub invariant-loop-at : goal.invariant-loop-at
invariant-loop-at l = l.text.items ≡ l.initial.text.items ++ flat_map cost_line (take l.at (enumerate_from 1 l.costs))
