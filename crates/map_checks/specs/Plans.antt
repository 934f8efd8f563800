-- What a plan is of.
use Rattle.std.specs.Prelude.{ℕ, ◌≡◌, List, map}
use Rattle.map_checks.specs.Imports.{Fields, Owner, IsTooBig, Cell, Hold, Term}
use Rattle.map_checks.specs.Mappings.{layout_of, holds_of, most_slots}
use Rattle.map_checks.specs.Ruled.{HasLengths, IsRuled}
use Rattle.map_checks.specs.declared.plan.Plan.{Plan}

-- a plan of a layout, whose cells are stored so, and which is not over the limits
pub record IsPlanFor (most : ℕ) (layout : List (List Owner)) (extents : List ℕ) (holds : List Hold) (plan : Plan) : Type 0 where
  pub held : plan.holds ≡ holds
  pub sized : HasLengths layout plan.lengths
  pub ruled : IsRuled layout extents (map (λ h. h.width) holds) plan.rules
  pub fits : IsTooBig most layout → ⊥

-- a plan of an expression over cells
abbrev pub IsPlanOf : Term → List ℕ → Fields → List Cell → Plan → Type 0
IsPlanOf term extents fields cells plan =
    IsPlanFor (most_slots term extents) (layout_of term extents fields cells) extents (holds_of term fields cells) plan
