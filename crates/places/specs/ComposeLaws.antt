-- 'Exactly once' over the blobs of a layout: blobs are joined, owners are renamed.
use Rattle.std.specs.Prelude.{◌≡◌, ℕ, ◌+◌, ◌-◌, ◌%◌, ◌<◌, ◌≤◌, ◌⊎◌, List, [], ◌∷◌, ◌++◌, map, length, get_or, All}
use Rattle.record_dim.specs.Std.{⊎_elim, sym, ap, ◌∙◌, arith, cases_lt, get_or_append_left, get_or-append_right, get_or-append-add, get_or_past, get_or-map, length-map}
use Rattle.places.specs.Layout.{Owner, Pad, Bit, owner_at}
use Rattle.places.specs.Rules.{renamed, relabel}
use Rattle.places.specs.Lawful.{IsBitOf, IsLaidOut}
use Rattle.places.specs.ExactLaws.{Has, Apart, OfCells, of_either, of_first, not_both, within}

-- a layout has exactly the bits with `In`, each at one place
pub record LaysOut (In : ℕ → ℕ → ℕ → Type 0) (layout : List (List Owner)) : Type 0 where
  pub owned : (b p s c k : ℕ) → owner_at layout b p ≡ Bit s c k → In s c k
  pub once : (b p b' p' s c k : ℕ) → owner_at layout b p ≡ Bit s c k → owner_at layout b' p' ≡ Bit s c k → (b ≡ b') × (p ≡ p')
  pub there : (s c k : ℕ) → In s c k → (b : ℕ) × (p : ℕ) × (owner_at layout b p ≡ Bit s c k)

-- a place that has a bit lies in a blob
pub within_blobs : (layout : List (List Owner)) (b p s c k : ℕ) → owner_at layout b p ≡ Bit s c k → b < length layout
within_blobs layout b p s c k e = grind (arith, get_or_past, cases_lt)

-- a place that has a bit lies within its blob
pub within_blob : (layout : List (List Owner)) (b p s c k : ℕ) → owner_at layout b p ≡ Bit s c k → p < length (get_or layout b [])
within_blob layout b p s c k e = within (get_or layout b []) p s c k e

-- a layout of one blob
pub has_blob : {In : ℕ → ℕ → ℕ → Type 0} {owners : List Owner} → Has In owners → LaysOut In (owners ∷ [])
has_blob {In} {owners} h = grind arith

-- the same bits under another description
pub lays_out_same : {In Out : ℕ → ℕ → ℕ → Type 0} {layout : List (List Owner)} → LaysOut In layout
    → ((s c k : ℕ) → In s c k → Out s c k) → ((s c k : ℕ) → Out s c k → In s c k) → LaysOut Out layout
lays_out_same h to from = grind arith

-- the owners of joined blobs
pub owner_left : (xs ys : List (List Owner)) (b p : ℕ) → b < length xs → owner_at (xs ++ ys) b p ≡ owner_at xs b p
owner_left xs ys b p l = ap (λ (blob : List Owner). get_or blob p Pad) (get_or_append_left xs ys [] b l)

pub owner_right : (xs ys : List (List Owner)) (b p : ℕ) → owner_at (xs ++ ys) (length xs + b) p ≡ owner_at ys b p
owner_right xs ys b p = ap (λ (blob : List Owner). get_or blob p Pad) (get_or-append-add xs ys b [])

join_at : (xs ys : List (List Owner)) (b p s c k : ℕ) → owner_at (xs ++ ys) b p ≡ Bit s c k
    → (owner_at xs b p ≡ Bit s c k) ⊎ ((length xs ≤ b) × (owner_at ys (b - length xs) p ≡ Bit s c k))
join_at xs ys b p s c k e = grind (arith, owner_left, get_or-append_right, cases_lt)

-- blobs behind blobs that share no bit with them
pub join_lays_out : {In Out : ℕ → ℕ → ℕ → Type 0} {xs ys : List (List Owner)} → LaysOut In xs → LaysOut Out ys
    → ((s c k : ℕ) → In s c k → Out s c k → ⊥) → LaysOut (λ s c k. In s c k ⊎ Out s c k) (xs ++ ys)
join_lays_out {In} {Out} {xs} {ys} left right apart = record {
  owned = λ b p s c k e.
      grind (arith, join_at);
  once = λ b p b' p' s c k e e'.
      ⊎_elim
      (λ (h : owner_at xs b p ≡ Bit s c k).
      ⊎_elim
      (λ (h' : owner_at xs b' p' ≡ Bit s c k). left.once b p b' p' s c k h h')
      (λ (h' : (length xs ≤ b') × (owner_at ys (b' - length xs) p' ≡ Bit s c k)).
      absurd (apart s c k (left.owned b p s c k h) (right.owned (b' - length xs) p' s c k h'.1)))
      (join_at xs ys b' p' s c k e'))
      (λ (h : (length xs ≤ b) × (owner_at ys (b - length xs) p ≡ Bit s c k)).
      ⊎_elim
      (λ (h' : owner_at xs b' p' ≡ Bit s c k).
      absurd (apart s c k (left.owned b' p' s c k h') (right.owned (b - length xs) p s c k h.1)))
      (λ (h' : (length xs ≤ b') × (owner_at ys (b' - length xs) p' ≡ Bit s c k)).
      grind arith)
      (join_at xs ys b' p' s c k e'))
      (join_at xs ys b p s c k e);
  there = λ s c k (h : In s c k ⊎ Out s c k).
      ⊎_elim
      (λ (i : In s c k).
      grind (arith, owner_left, within_blobs))
      (λ (i : Out s c k).
      let at = right.there s c k i in
      (length xs + at.0, at.1, owner_right xs ys at.0 at.1 ∙ at.2))
      h;
}

-- a blob for each cell
pub blobs_of_cells : (f : ℕ × ℕ → List Owner) (In : ℕ × ℕ → ℕ → ℕ → ℕ → Type 0) (cells : List (ℕ × ℕ)) → Apart cells
    → ((c w : ℕ) → Has (In (c, w)) (f (c, w)))
    → ((c w s c' k : ℕ) → In (c, w) s c' k → c' ≡ c)
    → LaysOut (OfCells In cells) (map f cells)
blobs_of_cells f In [] apart each own = grind (arith, lays_out_same)
blobs_of_cells f In (cell ∷ cells) apart each own =
    lays_out_same
    (join_lays_out (has_blob (each cell.0 cell.1)) (blobs_of_cells f In cells apart.1 each own) (λ s c k. not_both In cell cells own s c k apart.0))
    (of_either In cell cells own)
    (of_first In cell cells own)

-- an owner under a new name
pub owner_relabel : (name : ℕ → ℕ → ℕ → Owner) (layout : List (List Owner)) (b p : ℕ)
    → owner_at (relabel name layout) b p ≡ renamed name (owner_at layout b p)
owner_relabel name layout b p = grind (arith, get_or-map, length-map, get_or_past, cases_lt)

-- where the bit of a new owner came from, for new names under which every wanted bit has one old owner
pub record Back (In Out : ℕ → ℕ → ℕ → Type 0) (name : ℕ → ℕ → ℕ → Owner) (slot cell bit : ℕ → ℕ → ℕ → ℕ) : Type 0 where
  pub from : (s c k : ℕ) → Out s c k → In (slot s c k) (cell s c k) (bit s c k)
  pub to : (s c k : ℕ) → Out s c k → name (slot s c k) (cell s c k) (bit s c k) ≡ Bit s c k
  pub out : (s c k s' c' k' : ℕ) → In s c k → name s c k ≡ Bit s' c' k' → Out s' c' k'
  pub back : (s c k s' c' k' : ℕ) → In s c k → name s c k ≡ Bit s' c' k' → (s ≡ slot s' c' k') × (c ≡ cell s' c' k') × (k ≡ bit s' c' k')

-- the owner before it got its new name
before : (name : ℕ → ℕ → ℕ → Owner) (owner : Owner) (s' c' k' : ℕ) → renamed name owner ≡ Bit s' c' k'
    → (s : ℕ) × (c : ℕ) × (k : ℕ) × (owner ≡ Bit s c k) × (name s c k ≡ Bit s' c' k')
before name owner s' c' k' e = grind arith

pub relabel_lays_out : {In Out : ℕ → ℕ → ℕ → Type 0} (name : ℕ → ℕ → ℕ → Owner) (slot cell bit : ℕ → ℕ → ℕ → ℕ) (layout : List (List Owner))
    → Back In Out name slot cell bit → LaysOut In layout → LaysOut Out (relabel name layout)
relabel_lays_out {In} {Out} name slot cell bit layout back h =
    let old : (b p s' c' k' : ℕ) → owner_at (relabel name layout) b p ≡ Bit s' c' k'
    → (s : ℕ) × (c : ℕ) × (k : ℕ) × (owner_at layout b p ≡ Bit s c k) × (name s c k ≡ Bit s' c' k') =
    λ b p s' c' k' e. before name (owner_at layout b p) s' c' k' (sym (owner_relabel name layout b p) ∙ e) in
    let origin : (b p s' c' k' : ℕ) → owner_at (relabel name layout) b p ≡ Bit s' c' k'
    → owner_at layout b p ≡ Bit (slot s' c' k') (cell s' c' k') (bit s' c' k') =
    λ b p s' c' k' e.
    let o = old b p s' c' k' e in
    let f = back.back o.0 o.1 o.2 s' c' k' (h.owned b p o.0 o.1 o.2 o.3) o.4 in
    cc in
    record {
      owned = λ b p s' c' k' e.
          let o = old b p s' c' k' e in
          back.out o.0 o.1 o.2 s' c' k' (h.owned b p o.0 o.1 o.2 o.3) o.4;
      once = λ b p b' p' s' c' k' e e'.
          h.once b p b' p' (slot s' c' k') (cell s' c' k') (bit s' c' k') (origin b p s' c' k' e) (origin b' p' s' c' k' e');
      there = λ s' c' k' o.
          let at = h.there (slot s' c' k') (cell s' c' k') (bit s' c' k') (back.from s' c' k' o) in
          (at.0, at.1, owner_relabel name layout at.0 at.1 ∙ ap (renamed name) at.2 ∙ back.to s' c' k' o);
    }

-- from 'exactly once' to the laws
pub laid_out : {layout : List (List Owner)} {slots : ℕ} {widths : List ℕ} → LaysOut (IsBitOf slots widths) layout
    → All (λ blob. length blob % 8 ≡ 0) layout → All (λ width. width ≤ 64) widths → All (λ width. 1 ≤ width) widths
    → IsLaidOut layout slots widths
laid_out h bytes narrow wide = grind arith

-- and back
pub lays_out : {layout : List (List Owner)} {slots : ℕ} {widths : List ℕ} → IsLaidOut layout slots widths → LaysOut (IsBitOf slots widths) layout
lays_out h = record { owned = h.owned; once = h.once; there = h.there }
