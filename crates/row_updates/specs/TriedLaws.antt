-- A row is updated by trying it and then storing what it is given.
use Rattle.std.specs.Prelude.{◌≡◌, ℕ, ℤ, Bool, List, ◌++◌, Option, Some, None, Result, Ok, Err, refl, if◌then◌else◌}
use Rattle.row_updates.specs.Imports.{append-nil, append_assoc, arith, Term, StoreAnswer, Keeping, Access}
use Rattle.row_updates.specs.declared.fault.UpdateFault.{UpdateFault}
use Rattle.row_updates.specs.Rows.{Setting, each, passes, new_value, with_values, tried_row, given_row, updated_row, ◌>>=◌}
use Rattle.row_updates.specs.Logs.{filter_log, if_ok, if_passes, sides_log, stores_log, tried_log, if_given, row_log}

module _ (answer : StoreAnswer) (filter : Option (Term ℕ)) (sets : List Setting) (number : ℕ) (row : List ℤ) (index : List ℕ) where
  -- the accesses of the filter, and of the right sides
  abbrev front : List Access
  front = filter_log number row index filter

  abbrev sides : List Access
  sides = sides_log answer number row index sets

  -- the values of the right sides, and what a row is given
  abbrev values : Result (List ℤ) UpdateFault
  values = each (new_value answer number row index) sets

  abbrev given : Bool → Result (Option (List ℤ)) UpdateFault
  given test = if test then (values >>= (λ found. Ok (Some found))) else Ok None

  -- the row after the update
  pub updated_as_tried : (keep : Keeping)
      → updated_row answer keep filter sets number row index ≡ (tried_row answer filter sets number row index >>= (λ tried. Ok (given_row keep sets tried row)))
  updated_as_tried keep = of_test (passes number row index filter) where
    of_values : (found : Result (List ℤ) UpdateFault)
        → (found >>= (λ values. Ok (with_values keep sets values row))) ≡ ((found >>= (λ values. Ok (Some values))) >>= (λ tried. Ok (given_row keep sets tried row)))
    of_values (Ok found) = refl
    of_values (Err fault) = refl

    of_test : (test : Result Bool UpdateFault)
        → (test >>= (λ t. if t then (values >>= (λ found. Ok (with_values keep sets found row))) else Ok row)) ≡ ((test >>= given) >>= (λ tried. Ok (given_row keep sets tried row)))
    of_test test = grind arith

  -- its accesses
  pub log_as_tried : row_log answer filter sets number row index ≡ tried_log answer filter sets number row index ++ if_given (tried_row answer filter sets number row index) (stores_log number sets)
  log_as_tried = of_test (passes number row index filter) where
    of_values : (found : Result (List ℤ) UpdateFault) → if_ok found (stores_log number sets) ≡ if_given (found >>= (λ values. Ok (Some values))) (stores_log number sets)
    of_values (Ok found) = refl
    of_values (Err fault) = refl

    of_test : (test : Result Bool UpdateFault)
        → front ++ if_passes test (sides ++ if_ok values (stores_log number sets)) ≡ (front ++ if_passes test sides) ++ if_given (test >>= given) (stores_log number sets)
    of_test test = grind (arith, append_assoc, append-nil)

  -- what a row is given are the values of the right sides
  pub tried_values : (found : List ℤ) → tried_row answer filter sets number row index ≡ Ok (Some found) → values ≡ Ok found
  tried_values found gives = of_test (passes number row index filter) gives where
    of_values : (all : Result (List ℤ) UpdateFault) → (all >>= (λ values. Ok (Some values))) ≡ Ok (Some found) → all ≡ Ok found
    of_values (Ok all) e = cc
    of_values (Err fault) e = absurd (cc)

    of_test : (test : Result Bool UpdateFault) → (test >>= given) ≡ Ok (Some found) → values ≡ Ok found
    of_test test e = grind arith
