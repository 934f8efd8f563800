-- Headers with which a view can be made: the test of them, and the laws of their layouts.
use Rattle.blob_file.proofs.Imports.{◌≡◌, Bool, true, false, length, map, nat_lt, Option, None, Result, Ok, is_ok, is_none, ◌∙◌, ◌&&◌, Decides, Decides-and, Decides-or, Decides-not, Decides-like, Decides-ltb, false_from_ne_true, bad_shape, bad_extents, Record, kinds_of, record_fault, IsLaidOut, Hold, BadMapping, length-leaf_cells, leaf_cells, accepted, holds_by, term_laws, good_numbers, length-holds, IsOverLimits, Header, owners_by, is_nameless, words_of, CanLie, is_over_limits, can_lie, nameless_built, row_count, not, arith}
use Rattle.map_any.proofs.Built.{good_number, good_parts}

-- ---- the test

none_is : {A : Type 0} (o : Option A) → Decides (is_none o) (o ≡ None)
none_is o = grind arith

ok_is : (r : Result Unit BadMapping) → Decides (is_ok r) (r ≡ Ok tt)
ok_is r = grind arith

over_is : (header : Header) → Decides (is_over_limits header) (IsOverLimits header.mapping header.extents header.fields)
over_is header = grind (arith, Decides-like, Decides-or, nat_lt, Decides-ltb)

pub lies : (header : Header) → Decides (can_lie header) (CanLie header)
unfolding can_lie
lies header =
    let fit : Bool = is_none (record_fault (Record header.fields)) in
    let shaped : Bool = is_none (bad_shape (words_of header)) in
    let ranged : Bool = is_none (bad_extents (words_of header) None) in
    let answer = accepted header.mapping header.fields (leaf_cells (kinds_of header.fields)) in
    let within = not (is_over_limits header) in
    let one : Decides within (¬ IsOverLimits header.mapping header.extents header.fields) = Decides-not (is_over_limits header) (over_is header) in
    let two : Decides (is_ok answer && within) ((answer ≡ Ok tt) × (¬ IsOverLimits header.mapping header.extents header.fields)) = Decides-and (is_ok answer) within (ok_is answer) one in
    let three = Decides-and ranged (is_ok answer && within) (none_is (bad_extents (words_of header) None)) two in
    let four = Decides-and shaped (ranged && (is_ok answer && within)) (none_is (bad_shape (words_of header))) three in
    let five = Decides-and fit (shaped && (ranged && (is_ok answer && within))) (none_is (record_fault (Record header.fields))) four in
    grind (arith, Decides-like)

pub cannot_lie : (header : Header) → (CanLie header → ⊥) → can_lie header ≡ false
cannot_lie header none = false_from_ne_true (can_lie header) (λ e. none ((lies header).0 e))

-- ---- the layout of a header

module _ (header : Header) (nameless : is_nameless header.mapping ≡ true) (can : CanLie header) where
  -- it keeps the laws of layouts
  pub lawful : IsLaidOut (owners_by header) (row_count header) (map (λ (h : Hold). h.width) (holds_by header.mapping header.fields))
  lawful =
      let cells = leaf_cells (kinds_of header.fields) in
      term_laws header.mapping header.extents header.fields cells (nameless_built header.mapping nameless)
      (good_numbers header.mapping (good_number header.mapping header.fields cells can.mapped)) (good_parts header.mapping header.fields cells can.mapped)

-- and there is a hold for each leaf
pub paired : (header : Header) → length (holds_by header.mapping header.fields) ≡ length (kinds_of header.fields)
paired header = length-holds header.mapping header.fields (leaf_cells (kinds_of header.fields)) ∙ length-leaf_cells (kinds_of header.fields)
