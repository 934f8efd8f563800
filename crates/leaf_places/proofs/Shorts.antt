-- Where the short form of a leaf's rule leads a row, in groups of rows, and what stands there.
use Rattle.leaf_places.proofs.Imports.{◌≡◌, ℕ, zero, suc, ◌+◌, ◌-◌, ◌*◌, ◌/◌, ◌%◌, ◌<◌, ◌≤◌, Bool, true, false, List, [], ◌∷◌, length, map, refl, sym, ap, ◌∙◌, subst, slice_index, ⊎_elim, arith, cases_lt, get_or-append_right, Owner, Bit, owner_at, IsLocated, width_at, Hold, Piece, PieceRule, turned_place, spots_of, spot_at, spot_owned, one_at, short_pieces, start_in, IsShortIn, hold_at, length-spots_in, next_piece, slot_by, walks_in_blocks, turned_pieces, word_width, Field, ShortRule, Walk, Word, bit_by, first_by, spot_by, IsForm, is_field, turns, AreGroupsOf, Groups}
use Rattle.piece_bits.specs.declared.walk.Walk.TheVariants as walk
use Rattle.piece_bits.specs.declared.word.Word.TheVariants as stored

-- ---- the groups of a walk

lines_spot : (base block lines columns row : ℕ) → spot_by false base columns (lines * block) block row ≡ base + (row % columns * lines + row / columns) * block
lines_spot base block lines columns row = grind arith

module _ (short : ShortRule) (row : ℕ) where
  single_start : (way : Walk) → short.walk ≡ way → walks_in_blocks way ≡ false
      → start_in short row ≡ short.base + slot_by way short.lines short.columns.columns row * short.block
  single_start way is single = grind arith

  pub columns_spot : (lane : ℕ) → short.walk ≡ walk.Columns → lane ≡ short.lines * short.block
      → spot_by false short.base short.columns.columns lane short.block row ≡ start_in short row
  columns_spot lane is apart =
      ap (λ (n : ℕ). spot_by false short.base short.columns.columns n short.block row) apart
      ∙ lines_spot short.base short.block short.lines short.columns.columns row ∙ sym (single_start walk.Columns is refl)

-- ---- pieces

-- those of a number of so many bits whose first is this one, least significant first
abbrev pub pieces_from : Bool → ℕ → ℕ → ℕ → List Piece
pieces_from true blob first width = turned_pieces blob first (width / 8)
pieces_from false blob first width = record { blob = blob; bit = first; bits = width } ∷ []

pub word_formed : (word : Word) (field : Field) → (word ≡ stored.Scattered → ⊥) → (word ≡ stored.Field → field.width ≤ 57) → IsForm (is_field word) (turns word) (word_width word field)
word_formed word field alone narrow = grind arith

-- ---- bits

turned_spot : (blob first n k : ℕ) → k < 8 * n → spot_at (spots_of (turned_pieces blob first n)) k ≡ (blob, first + turned_place (8 * n) k)
turned_spot blob first zero k inside = absurd (omega arith)
turned_spot blob first (suc n) k inside =
    ⊎_elim
    (λ (low : k < 8). grind (arith, next_piece))
    (λ (high : 8 ≤ k). grind (arith, get_or-append_right, length-spots_in, (turned_spot blob first n (k - 8) (omega arith))))
    (cases_lt k 8)

whole_width : (in_bits turned : Bool) (width : ℕ) → IsForm in_bits turned width → turned ≡ true → 8 * (width / 8) ≡ width
whole_width in_bits turned width form is = grind (arith, ⊎_elim)

-- bit k of a number stands where a place says
bit_spot : (turned : Bool) (blob first width k : ℕ) → (turned ≡ true → 8 * (width / 8) ≡ width) → k < width
    → spot_at (spots_of (pieces_from turned blob first width)) k ≡ (blob, bit_by turned first width k)
bit_spot true blob first width k whole inside = grind (arith, turned_spot)
bit_spot false blob first width k whole inside = one_at (record { blob = blob; bit = first; bits = width }) k inside

-- where pieces are the places of a leaf, its bits stand so
pub owned_from : (layout : List (List Owner)) (turned in_bits : Bool) (blob first width row leaf : ℕ) → IsForm in_bits turned width
    → IsLocated layout row leaf width (pieces_from turned blob first width)
    → (k : ℕ) → k < width → owner_at layout blob (bit_by turned first width k) ≡ Bit row leaf k
owned_from layout turned in_bits blob first width row leaf form located k inside =
    sym (ap (λ (w : ℕ × ℕ). owner_at layout w.0 w.1) (bit_spot turned blob first width k (whole_width in_bits turned width form) inside))
    ∙ spot_owned layout row leaf width (pieces_from turned blob first width) located k inside

-- a short form of a rule leads every row to where the bits of its leaf stand
module _ (layout : List (List Owner)) (slots leaf : ℕ) (holds : List Hold) (hold : Hold) (rules : List PieceRule) (short : ShortRule)
    (is : IsShortIn layout slots leaf (slice_index (map (λ (h : Hold). h.width) holds) leaf) (hold_at holds leaf) rules short) (hold_is : hold_at holds leaf ≡ hold) (held_in : leaf < length holds)
    (alone : short.word ≡ stored.Scattered → ⊥) (rows : ℕ) (rows_are : rows ≡ slots) (groups : Groups) (are : AreGroupsOf short rows groups) where
  wide_word : hold.width ≡ word_width short.word short.field
  wide_word = ap (λ (h : Hold). h.width) (sym hold_is) ∙ sym is.held.wide

  pub short_form : IsForm (is_field short.word) (turns short.word) hold.width
  short_form = subst (λ (w : ℕ). IsForm (is_field short.word) (turns short.word) w) (sym wide_word) (word_formed short.word short.field alone is.held.narrow)

  abbrev first_of : ℕ → ℕ
  first_of row = first_by (is_field short.word) (spot_by groups.in_digits short.base groups.lanes groups.lane groups.block row)

  stand_as : (row : ℕ) → row < slots → pieces_from (turns short.word) short.blob (first_of row) hold.width ≡ short_pieces short rules row
  stand_as row inside = grind (arith, wide_word)

  own_width : slice_index (map (λ (h : Hold). h.width) holds) leaf ≡ hold.width
  own_width = width_at holds leaf (record { signed = false; width = 0 }) held_in ∙ ap (λ (h : Hold). h.width) hold_is

  pub short_owned : (row k : ℕ) → row < slots → k < hold.width → owner_at layout short.blob (bit_by (turns short.word) (first_of row) hold.width k) ≡ Bit row leaf k
  short_owned row k inside below = grind (arith, owned_from, short_form, own_width, slice_index, stand_as)
