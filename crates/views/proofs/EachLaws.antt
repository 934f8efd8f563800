-- Pieces of slots that are moved between the blobs of two views, as far behind each other on either side.
use Rattle.views.proofs.Imports.{◌≡◌, ℕ, zero, suc, ◌+◌, ◌*◌, ◌%◌, ◌<◌, ◌≤◌, List, [], length, get_or, set, sym, subst, arith, IfSome, get_or-set_same, length-set, set-set, set-get_or, indices, slot_count, Fields, kinds_of, Owner, IsMoved, AreMoved, moved_bits, Term, array_of, lanes_in, IsArrayRun, StoreMode, IsKept, raw_under, IsRunMoved, IsMovedEach, Option, Some, None, Order}
use Rattle.views.proofs.RunMoveLaws.{IsMove, HasRun, none_moved, target_in, run_kept, run_raw}
use Rattle.views.proofs.SlotMoveLaws.{runs_joined}

-- one of all that is said of a mapping's slots
pub run_at : (term : Term) (layout : List (List Owner)) (extents : List ℕ) (leaf width slot n blob byte step : ℕ)
    → IfSome (array_of term) (λ array. (k count : ℕ) → 0 < count → slot + k * n + count ≤ slot_count array.0 extents
    → (slot + k * n) % lanes_in array.1 (slot_count array.0 extents) + count ≤ lanes_in array.1 (slot_count array.0 extents)
    → IsArrayRun layout array.0 extents leaf width (slot + k * n) count blob (8 * (byte + k * step)))
    → (k : ℕ) → HasRun term layout extents leaf width (slot + k * n) blob (byte + k * step)
run_at term layout extents leaf width slot n blob byte step h k = of (array_of term) h where
  of : (o : Option (Order × Option ℕ)) → IfSome o (λ array. (k count : ℕ) → 0 < count → slot + k * n + count ≤ slot_count array.0 extents
      → (slot + k * n) % lanes_in array.1 (slot_count array.0 extents) + count ≤ lanes_in array.1 (slot_count array.0 extents)
      → IsArrayRun layout array.0 extents leaf width (slot + k * n) count blob (8 * (byte + k * step)))
      → IfSome o (λ array. (count : ℕ) → 0 < count → slot + k * n + count ≤ slot_count array.0 extents
      → (slot + k * n) % lanes_in array.1 (slot_count array.0 extents) + count ≤ lanes_in array.1 (slot_count array.0 extents)
      → IsArrayRun layout array.0 extents leaf width (slot + k * n) count blob (8 * (byte + k * step)))
  of None h = tt
  of (Some array) h = h k

-- pieces of a leaf of two views over one array
pub record AreEven (a b : Term) (extents others_extents : List ℕ) (fields trees : Fields) (leaf slot count pieces target at to_step source from from_step len : ℕ) : Type 0 where
  pub more : 0 < pieces
  pub each : (k : ℕ) → k < pieces → IsMove a b extents others_extents fields trees leaf (slot + k * count) count target (at + k * to_step) source (from + k * from_step) len

module _ {mode lender : StoreMode} {a b : Term} {extents others_extents : List ℕ} {fields trees : Fields} {old others : List (List ℕ)} {leaf slot count pieces target at to_step source from from_step len : ℕ}
    (e : AreEven a b extents others_extents fields trees leaf slot count pieces target at to_step source from from_step len)
    (kept : IsKept mode a extents fields old) (others_kept : IsKept lender b others_extents trees others) where
  pub each_target_in : target < length old
  each_target_in = target_in (e.each 0 e.more) kept others_kept

  -- what is kept of blobs, and what their raw numbers are, once so many slots were moved
  abbrev After : ℕ → List (List ℕ) → Type 0
  After done new = IsKept mode a extents fields new
      × IfSome (array_of a) (λ array. IsRunMoved array.0 extents (length (indices extents)) (length (kinds_of fields)) leaf slot done
      (raw_under b others_extents trees others) (raw_under a extents fields old) (raw_under a extents fields new))

  after_pieces : (k : ℕ) → k ≤ pieces → (bytes : List ℕ) → IsMovedEach at to_step (get_or others source []) from from_step len k (get_or old target []) bytes
      → After (k * count) (set old target bytes)
  after_pieces zero l bytes is = grind (arith, set-get_or, none_moved)
  after_pieces (suc k) l bytes h =
      let mid : List ℕ = h.0 in
      let blobs : List (List ℕ) = set old target mid in
      let new : List (List ℕ) = set old target bytes in
      let so_far = after_pieces k (omega (arith, l)) mid h.1 in
      let inside : k < pieces = omega (arith, l) in
      let there : target < length blobs = omega (arith, each_target_in, length-set old target mid) in
      let here : get_or blobs target [] ≡ mid = get_or-set_same old target mid [] each_target_in in
      let bits : AreMoved others blobs (set blobs target bytes) source (8 * (from + k * from_step)) target (8 * (at + k * to_step)) (8 * len) =
      moved_bits others blobs source (from + k * from_step) target (at + k * to_step) len bytes there
      (subst (λ (bs : List ℕ). IsMoved bs (at + k * to_step) (get_or others source []) (from + k * from_step) len bytes) (sym here) h.2) in
      let moved : AreMoved others blobs new source (8 * (from + k * from_step)) target (8 * (at + k * to_step)) (8 * len) =
      subst (λ (bs : List (List ℕ)). AreMoved others blobs bs source (8 * (from + k * from_step)) target (8 * (at + k * to_step)) (8 * len)) (set-set old target mid bytes) bits in
      let next = run_raw (e.each k inside) so_far.0 others_kept moved in
      let all : k * count + count ≡ suc k * count = grind arith in (
        run_kept (e.each k inside) so_far.0 others_kept moved,
        subst (λ (n : ℕ). IfSome (array_of a) (λ array. IsRunMoved array.0 extents (length (indices extents)) (length (kinds_of fields)) leaf slot n
            (raw_under b others_extents trees others) (raw_under a extents fields old) (raw_under a extents fields new))) all
            (runs_joined (array_of a) extents (length (indices extents)) (length (kinds_of fields)) leaf slot (k * count) count (raw_under b others_extents trees others)
            (raw_under a extents fields old) (raw_under a extents fields blobs) (raw_under a extents fields new) (e.each k inside).leaf_in so_far.1 next),
      )

  -- once all were
  pub each_moved : (new : List (List ℕ)) → new ≡ set old target (get_or new target [])
      → IsMovedEach at to_step (get_or others source []) from from_step len pieces (get_or old target []) (get_or new target []) → After (pieces * count) new
  each_moved new is h = subst (After (pieces * count)) (sym is) (after_pieces pieces (let l : pieces ≤ pieces = omega arith in l) (get_or new target []) h)
