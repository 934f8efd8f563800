use Rattle.views.proofs.Imports.{Option, Some, None, Bor, IfSome, option_copied, HeatCounts, heat_counts, Heat, HasGranules, owners_of, option_map, arith}
use Rattle.views.proofs.view.View.heat.Goals as goal

-- what holds of the counts that are kept holds of those that are lent
lent : (P : HeatCounts → Type 0) (asked : Option (Bor Heat)) → IfSome (option_map heat_counts (option_copied asked)) P → IfSome asked (λ h. P (heat_counts h.now))
lent P None h = tt
lent P (Some heat) h = h

pub returns-clause-granules : goal.returns-clause-granules
returns-clause-granules c =
    lent (HasGranules (owners_of c.args.self.now)) c.as_ref.result
    (grind (arith, option_map))
