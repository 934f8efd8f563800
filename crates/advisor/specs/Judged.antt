-- Which expressions are layouts of cells within the limits.
use Rattle.std.specs.Prelude.{ℕ, ◌+◌, ◌*◌, ◌^◌, Bool, true, false, ◌||◌, nat_lt, List, [], ◌∷◌, length, sum_by, Option, Some, None, Result, Ok, Err}
use Rattle.advisor.specs.Imports.{Fields, Cell, Term, BadMapping, layout_of, most_slots, accepted, MakeMap, granules_in, blob_lengths}
use Rattle.map_checks.specs.declared.fault.MakeMap.TheVariants as map
use Rattle.advisor.specs.declared.advice.AdviseFault.{AdviseFault}
use Rattle.advisor.specs.declared.advice.AdviseFault.TheVariants.{Bad, TooBig, NoMemory}

-- more than 2^24 slots, 2^28 bytes or 2^24 granules
abbrev pub is_over : ℕ → Term → List ℕ → Fields → List Cell → Bool
is_over granule term extents fields cells =
    nat_lt (2 ^ 24) (most_slots term extents)
    || (nat_lt (8 * 2 ^ 28) (sum_by length (layout_of term extents fields cells))
    || nat_lt (2 ^ 24) (granules_in granule (blob_lengths (layout_of term extents fields cells))))

-- what is accepted may still be over a limit
abbrev pub limited : Bool → Result Unit BadMapping → Result Unit MakeMap
limited over (Err bad) = Err (map.Bad bad)
limited true (Ok x) = Err map.TooBig
limited false (Ok x) = Ok x

-- an expression as a layout of cells: refused so, over a limit, or good
unfoldable pub judged : ℕ → Term → List ℕ → Fields → List Cell → Result Unit MakeMap
judged granule term extents fields cells = limited (is_over granule term extents fields cells) (accepted term fields cells)

-- the fault of a listed candidate
abbrev pub fault_at : ℕ → MakeMap → AdviseFault
fault_at candidate (map.Bad fault) = Bad candidate fault
fault_at candidate map.TooBig = TooBig candidate
fault_at candidate map.NoMemory = NoMemory

-- the first of them, where candidates are counted from here on
abbrev pub fault_or : ℕ → Result Unit MakeMap → Option AdviseFault → Option AdviseFault
fault_or candidate (Err fault) later = Some (fault_at candidate fault)
fault_or candidate (Ok x) later = later

abbrev pub first_judged_fault : (Term → Result Unit MakeMap) → ℕ → List Term → Option AdviseFault
first_judged_fault judge candidate [] = None
first_judged_fault judge candidate (term ∷ terms) = fault_or candidate (judge term) (first_judged_fault judge (candidate + 1) terms)
