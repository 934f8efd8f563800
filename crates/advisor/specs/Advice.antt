-- What candidates cost a table, and which of them is the best.
use Rattle.std.specs.Prelude.{ℕ, Bool, true, false, not, ◌&&◌, ◌||◌, nat_le, if◌then◌else◌, List, [], ◌∷◌, ◌++◌, map, filter, is_ok, Option, Some, None, option_map, Result, Ok, Err}
use Rattle.advisor.specs.Imports.{flat_map, list_all, find, PathStep, Name, Fields, names_of, Term, Split, term_of, uncounted, leaf_cells, layout_by, MakeMap, Table, leaf_types_of}
use Rattle.advisor.specs.declared.advice.Advice.{Advice}
use Rattle.advisor.specs.declared.advice.AdviseFault.{AdviseFault}
use Rattle.advisor.specs.declared.pass.Pass.{Pass}
use Rattle.advisor.specs.Judged.{judged, first_judged_fault}
use Rattle.advisor.specs.Passes.{cost}
use Rattle.advisor.specs.Suits.{suits}

-- the paths of the fields of the record itself, in order
abbrev pub own_paths : Fields → List (List PathStep)
own_paths fields = map (λ name. Name name ∷ []) (names_of fields)

-- the splits at a path, and at each of these fields: each expression for the first side, with each for the rest
abbrev pub splits_at : List Term → List PathStep → List Term
splits_at terms path = flat_map (λ first. map (λ rest. Split path first rest) terms) terms

abbrev pub split_terms : Fields → List Term → List Term
split_terms fields terms = flat_map (splits_at terms) (own_paths fields)

-- an expression as a layout of all leaves of a table, within the limits
abbrev pub judge : Table → ℕ → Term → Result Unit MakeMap
judge table granule term = judged granule term table.extents table.fields (leaf_cells (leaf_types_of table))

-- what it costs
abbrev pub cost_of : Table → ℕ → List Pass → Term → ℕ
cost_of table granule passes term = cost passes granule (layout_by term table.extents table.fields)

-- the expressions that are listed, counters taken off, and behind them the splits that are layouts within the limits
abbrev pub candidates : Table → ℕ → List Term → Bool → List Term
candidates table granule listed false = listed
candidates table granule listed true = listed ++ filter (λ term. is_ok (judge table granule term)) (split_terms table.fields listed)

-- one that suits, and whose cost none that suits undercuts
abbrev pub is_best : (Term → Bool) → (Term → ℕ) → List Term → Term → Bool
is_best suit price all one = suit one && list_all (λ other. not (suit other) || nat_le (price one) (price other)) all

-- what each listed candidate costs that suits, and the first that is best
pub record Advised : Type 0 where
  pub costs : List (Option ℕ)
  pub best : Option (ℕ × Term)

abbrev pub advised : (Term → Bool) → (Term → ℕ) → List Term → List Term → Advised
advised suit price listed all = record {
  costs = map (λ term. if suit term then Some (price term) else None) listed;
  best = option_map (λ term. (price term, term)) (find (is_best suit price all) all);
}

-- a fault in place of an answer
abbrev pub unless : Option AdviseFault → Advised → Result Advised AdviseFault
unless None advice = Ok advice
unless (Some fault) advice = Err fault

-- the advice for some passes over a table, or the fault of the first listed candidate that is no layout within the limits
unfoldable pub advice : Table → ℕ → List Pass → List Term → Bool → Result Advised AdviseFault
advice table granule passes terms splits =
    let listed = map uncounted terms in
    unless (first_judged_fault (judge table granule) 0 listed)
    (advised (suits table) (cost_of table granule passes) listed (candidates table granule listed splits))

-- what an advice of the code tells
abbrev pub told_by : Advice → Advised
told_by advice = record { costs = advice.costs; best = option_map (λ best. (best.cost, term_of best.expr)) advice.best }
