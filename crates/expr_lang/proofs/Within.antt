-- Where nothing is unknown, the numbers of leaves and dimensions are within their bounds.
use Rattle.expr_lang.proofs.Imports.{◌≡◌, ℕ, ◌<◌, Bool, true, false, cond, nat_lt, Option, Some, None, List, [], ◌∷◌, ◌++◌, length, MatchOption, unwrap_or, is_some, refl, sym, arith, ltb-true, slice_get_within, PathStep, Term, Number, Entry, Index, Neg, Not, Binary, IsWithin, leaf_number, numbered, unknowns, IsAbsent, IsAt, found}
use Rattle.expr_lang.specs.declared.fault.BindFault.TheVariants as fault

both_empty : {A : Type 0} (xs ys : List A) → xs ++ ys ≡ [] → (xs ≡ []) × (ys ≡ [])
both_empty [] ys h = (refl, h)
both_empty (x ∷ xs) ys h = cc

leaf_within : (paths : List (List PathStep)) (path : List PathStep) (number : Option ℕ) → MatchOption number (IsAbsent paths path) (IsAt paths path 0) →
    cond (is_some number) [] (fault.UnknownPath path ∷ []) ≡ [] → unwrap_or number 0 < length paths
leaf_within paths path None absent h = cc
leaf_within paths path (Some place) at h = omega (arith, at.place_is, slice_get_within paths at.leaf path at.there)

index_within : (rank dimension : ℕ) (below : Bool) → below ≡ nat_lt dimension rank → cond below [] (fault.UnknownIndex dimension ∷ []) ≡ [] → dimension < rank
index_within rank dimension true is h = ltb-true dimension rank (sym is)
index_within rank dimension false is h = cc

pub within_where_known : (paths : List (List PathStep)) (rank : ℕ) (term : Term (List PathStep)) → unknowns paths rank term ≡ [] → IsWithin (length paths) rank (numbered paths term)
within_where_known paths rank (Number number) h = tt
within_where_known paths rank (Entry path) h = leaf_within paths path (leaf_number paths path) (found path paths 0) h
within_where_known paths rank (Index dimension) h = index_within rank dimension (nat_lt dimension rank) refl h
within_where_known paths rank (Neg inner) h = within_where_known paths rank inner h
within_where_known paths rank (Not inner) h = within_where_known paths rank inner h
within_where_known paths rank (Binary op left right) h =
    let parts = both_empty (unknowns paths rank left) (unknowns paths rank right) h in
    (within_where_known paths rank left parts.0, within_where_known paths rank right parts.1)

-- the same of the term that a bound expression has, for a number of leaves that is that of the paths
pub bound_within : (paths : List (List PathStep)) (leaves rank : ℕ) (term : Term (List PathStep)) (bound : Term ℕ) → bound ≡ numbered paths term → leaves ≡ length paths →
    unknowns paths rank term ≡ [] → IsWithin leaves rank bound
bound_within paths leaves rank term bound is many h = rw (is, many) (within_where_known paths rank term h)
