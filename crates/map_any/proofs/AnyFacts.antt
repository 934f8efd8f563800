-- What a mapping keeps, as its calls use it.
use Rattle.map_any.proofs.Imports.{◌≡◌, ℕ, ◌*◌, ◌<◌, ◌≤◌, List, [], length, get_or, ⊎_elim, sym, ap, ◌∙◌, arith, cases_lt, get_or-map, get_or_past, length-map, Fields, kinds_of, Owner, Hold, Term, holds_cells, leaf_cells, holds_by, HasLengths}

-- the number of blobs, and the bytes of each
pub length-sized : (layout : List (List Owner)) (lengths : List ℕ) → HasLengths layout lengths → length lengths ≡ length layout
length-sized layout lengths sized = grind (arith, length-map)

pub bytes_at : (layout : List (List Owner)) (lengths : List ℕ) (blob d : ℕ) → HasLengths layout lengths → blob < length layout
    → 8 * get_or lengths blob d ≡ length (get_or layout blob [])
bytes_at layout lengths blob d sized inside =
    let count : length lengths ≡ length layout = length-sized layout lengths sized in
    sym (get_or-map (λ (bytes : ℕ). 8 * bytes) lengths blob d 0 (omega arith))
    ∙ ap (λ (ns : List ℕ). get_or ns blob 0) sized
    ∙ get_or-map (length {A = Owner}) layout blob [] 0 inside

-- the bytes of any blob, where those outside of the list have none
pub bytes_of : (layout : List (List Owner)) (lengths : List ℕ) (blob bytes : ℕ) → HasLengths layout lengths → 8 * bytes ≡ length (get_or layout blob [])
    → bytes ≡ get_or lengths blob 0
bytes_of layout lengths blob bytes sized is =
    let count : length lengths ≡ length layout = length-sized layout lengths sized in
    ⊎_elim
    (λ (inside : blob < length layout). omega (arith, bytes_at layout lengths blob 0 sized inside))
    (λ (outside : length layout ≤ blob). grind (arith, get_or, get_or_past))
    (cases_lt blob (length layout))

-- each leaf has a hold
pub hold_in : (term : Term) (fields : Fields) (holds : List Hold) (cell : ℕ) → holds ≡ holds_by term fields → cell < length (leaf_cells (kinds_of fields)) → cell < length holds
hold_in term fields holds cell held inside = grind (arith, holds_cells)
