-- Binding: each path is replaced by the number of its leaf, or the first path or index that names nothing is told.
use Rattle.std.specs.Prelude.{ℕ, ◌≡◌, Bool, false, nat_eq, nat_lt, if◌then◌else◌, List, [], ◌∷◌, ◌++◌, Option, Some, is_some, unwrap_or}
use Rattle.record_dim.specs.Std.{position_from, pointwise}
use Rattle.std.specs.List.{slice_get}
use Rattle.record_dim.specs.declared.path.PathStep.{PathStep}
use Rattle.record_dim.specs.declared.path.PathStep.TheVariants.{Name, At}
use Rattle.expr_lang.specs.declared.fault.BindFault.{BindFault}
use Rattle.expr_lang.specs.declared.fault.BindFault.TheVariants as fault
use Rattle.expr_lang.specs.Terms.{Term, Number, Entry, Index, Neg, Not, Binary}

-- two steps, and two paths, are the same
abbrev pub same_step : PathStep → PathStep → Bool
same_step (Name a) (Name b) = pointwise nat_eq a b
same_step (At a) (At b) = nat_eq a b
same_step _ _ = false

-- the number of the leaf that has this path, if one has it
abbrev pub leaf_number : List (List PathStep) → List PathStep → Option ℕ
leaf_number paths path = position_from (pointwise same_step path) 0 paths

-- the term with the number of its leaf in place of each path
abbrev pub numbered : List (List PathStep) → Term (List PathStep) → Term ℕ
numbered paths (Number number) = Number number
numbered paths (Entry path) = Entry (unwrap_or (leaf_number paths path) 0)
numbered paths (Index dimension) = Index dimension
numbered paths (Neg inner) = Neg (numbered paths inner)
numbered paths (Not inner) = Not (numbered paths inner)
numbered paths (Binary op left right) = Binary op (numbered paths left) (numbered paths right)

-- the path, where no leaf has it, and the index, where it is not below the rank
abbrev pub unknown_path : List (List PathStep) → List PathStep → List BindFault
unknown_path paths path = if is_some (leaf_number paths path) then [] else fault.UnknownPath path ∷ []

abbrev pub unknown_index : ℕ → ℕ → List BindFault
unknown_index rank dimension = if nat_lt dimension rank then [] else fault.UnknownIndex dimension ∷ []

-- all these of a term, from left to right
abbrev pub unknowns : List (List PathStep) → ℕ → Term (List PathStep) → List BindFault
unknowns paths rank (Number number) = []
unknowns paths rank (Entry path) = unknown_path paths path
unknowns paths rank (Index dimension) = unknown_index rank dimension
unknowns paths rank (Neg inner) = unknowns paths rank inner
unknowns paths rank (Not inner) = unknowns paths rank inner
unknowns paths rank (Binary op left right) = unknowns paths rank left ++ unknowns paths rank right

-- the fault is the first of these, or want of memory
abbrev pub IsFirstUnknown : List BindFault → BindFault → Type 0
IsFirstUnknown all fault.NoMemory = Unit {0}
IsFirstUnknown all (fault.UnknownPath path) = slice_get all 0 ≡ Some (fault.UnknownPath path)
IsFirstUnknown all (fault.UnknownIndex dimension) = slice_get all 0 ≡ Some (fault.UnknownIndex dimension)
