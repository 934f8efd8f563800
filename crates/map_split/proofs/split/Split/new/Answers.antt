use Rattle.map_split.proofs.Imports.{Bool, List, ap, common_steps, arith, count_by, split, length-first_of, length-rest_of}
use Rattle.map_split.proofs.split.Split.new.Goals as goal

pub invariant_of-result : goal.invariant_of-result
invariant_of-result g c = grind (arith, common_steps, length-first_of, count_by, length-rest_of)

pub returns-clause-layout : goal.returns-clause-layout
returns-clause-layout g c =
    ap (λ (side : List Bool). split side (g.A.Mapping.layout c.args.first) (g.B.Mapping.layout c.args.rest)) c.in_ok-side.ensures.items
