-- What a plan has for each cell.
use Rattle.std.specs.Prelude.{◌≡◌, ℕ, List, length}
use Rattle.map_checks.specs.Imports.{ap, ◌∙◌, length-map, Owner, Hold}
use Rattle.map_checks.specs.Plans.{IsPlanFor}
use Rattle.map_checks.specs.declared.plan.Plan.{Plan}

module _ (most : ℕ) (layout : List (List Owner)) (extents : List ℕ) (holds : List Hold) (plan : Plan) (h : IsPlanFor most layout extents holds plan) where
  pub plan_holds : length plan.holds ≡ length holds
  plan_holds = ap (λ (hs : List Hold). length hs) h.held

  pub plan_rules : length plan.rules ≡ length holds
  plan_rules = h.ruled.each ∙ length-map holds (λ (x : Hold). x.width)
