-- What bits that are moved from other blobs say: the entries whose bits they are become those of the other table, and all others stand.
use Rattle.std.specs.Prelude.{◌≡◌, ◌⊎◌, ℕ, ◌+◌, ◌-◌, ◌<◌, ◌≤◌, List, length, get_or, map}
use Rattle.piece_bits.specs.Imports.{inl, inr, sym, ap, ◌∙◌, subst, ⊎_elim, arith, length-map, cases_lt, cases_eq, Hold, Owner, Pad, Bit, owner_at, decoded, entry, bit_owned, width_at, IsBitOf, IsLaidOut, number_same, owned_is, bit_in}
use Rattle.piece_bits.specs.Tables.{AreLaid, table_in}
use Rattle.piece_bits.specs.TableLaws.{entry_is}
use Rattle.piece_bits.specs.CellsLaws.{still_laid}

-- `count` bits from bit `from` of blob `source` of other blobs on are in place of those from bit `at` of blob `target` on; all others stand
pub record AreMoved (others old new : List (List ℕ)) (source from target at count : ℕ) : Type 0 where
  pub inside : (j : ℕ) → j < count → bit_in new target (at + j) ≡ bit_in others source (from + j)
  pub before : (p : ℕ) → p < at → bit_in new target p ≡ bit_in old target p
  pub behind : (p : ℕ) → at + count ≤ p → bit_in new target p ≡ bit_in old target p
  pub beside : (b p : ℕ) → (b ≡ target → ⊥) → bit_in new b p ≡ bit_in old b p
  pub lengths : map length new ≡ map length old

-- bits at these places have the same owners in two layouts
abbrev pub AreOwnedAlike : List (List Owner) → List (List Owner) → ℕ → ℕ → ℕ → ℕ → ℕ → Type 0
AreOwnedAlike layout other target at source from count = (j : ℕ) → j < count → owner_at layout target (at + j) ≡ owner_at other source (from + j)

-- a place is moved, or stands
abbrev IsTold : List (List ℕ) → List (List ℕ) → ℕ → ℕ → ℕ → ℕ → ℕ → Type 0
IsTold old new target at count b p = ((j : ℕ) × (j < count) × (b ≡ target) × (p ≡ at + j)) ⊎ (bit_in new b p ≡ bit_in old b p)

told : (others old new : List (List ℕ)) (source from target at count : ℕ) → AreMoved others old new source from target at count → (b p : ℕ) → IsTold old new target at count b p
told others old new source from target at count moved b p =
    ⊎_elim
    (λ (same : b ≡ target).
    ⊎_elim (λ (low : p < at). inr (ap (λ (x : ℕ). bit_in new x p) same ∙ moved.before p low ∙ ap (λ (x : ℕ). bit_in old x p) (sym same)))
    (λ (high : at ≤ p).
    ⊎_elim (λ (in_front : p < at + count). inl (p - at, (omega arith), same, (omega arith)))
    (λ (past : at + count ≤ p). inr (ap (λ (x : ℕ). bit_in new x p) same ∙ moved.behind p past ∙ ap (λ (x : ℕ). bit_in old x p) (sym same)))
    (cases_lt p (at + count)))
    (cases_lt p at))
    (λ (apart : b ≡ target → ⊥). inr (moved.beside b p apart))
    (cases_eq b target)

-- a bit of an entry is stored
stored : (rows : ℕ) (holds : List Hold) (s c k : ℕ) (d : Hold) → s < rows → c < length holds → k < (get_or holds c d).width → IsBitOf rows (map (λ (h : Hold). h.width) holds) s c k
stored rows holds s c k d l m n = record {
  slot_in = l;
  cell_in = omega (arith, length-map holds (λ (h : Hold). h.width));
  bit_in = subst (λ (w : ℕ). k < w) (sym (width_at holds c d m)) n;
}

module _ (layout other : List (List Owner)) (rows : ℕ) (holds : List Hold) (others old new : List (List ℕ)) (source from target at count : ℕ)
    (laid : IsLaidOut layout rows (map (λ (h : Hold). h.width) holds)) (other_laid : IsLaidOut other rows (map (λ (h : Hold). h.width) holds))
    (alike : AreOwnedAlike layout other target at source from count) (moved : AreMoved others old new source from target at count) where
  -- padding stays 0
  pub moved_laid : AreLaid layout old → AreLaid other others → AreLaid layout new
  moved_laid are_laid others_laid =
      let padding : (b p : ℕ) → owner_at layout b p ≡ Pad → bit_in new b p ≡ 0 = λ b p pad.
      ⊎_elim
      (λ (here : (j : ℕ) × (j < count) × (b ≡ target) × (p ≡ at + j)). grind arith)
      (λ (stands : bit_in new b p ≡ bit_in old b p). stands ∙ are_laid.padded.padding b p pad)
      (told others old new source from target at count moved b p) in
      still_laid layout old new are_laid moved.lengths (λ b p pad. padding b p pad ∙ sym (are_laid.padded.padding b p pad))

  -- an entry all of whose bits are moved is that of the other table
  pub moved_entry : (s c : ℕ) (d : Hold) → s < rows → c < length holds
      → ((k : ℕ) → k < (get_or holds c d).width → (j : ℕ) × (j < count) × (owner_at layout target (at + j) ≡ Bit s c k))
      → entry (table_in layout rows holds new) s c ≡ entry (table_in other rows holds others) s c
  moved_entry s c d l m whole =
      let hold = get_or holds c d in
      entry_is layout rows holds (bit_in new) s c d l m
      ∙ ap (decoded hold.signed hold.width)
      (number_same (λ k. bit_owned (Bit s c k) layout (bit_in new)) (λ k. bit_owned (Bit s c k) other (bit_in others)) hold.width
      (λ k n.
      let place = whole k n in
      owned_is layout rows (map (λ (h : Hold). h.width) holds) (bit_in new) target (at + place.0) s c k laid place.2
      ∙ moved.inside place.0 place.1
      ∙ sym (owned_is other rows (map (λ (h : Hold). h.width) holds) (bit_in others) source (from + place.0) s c k other_laid (sym (alike place.0 place.1) ∙ place.2))))
      ∙ sym (entry_is other rows holds (bit_in others) s c d l m)

  -- an entry none of whose bits is moved stands
  pub kept_entry : (s c : ℕ) (d : Hold) → s < rows → c < length holds
      → ((j k : ℕ) → j < count → owner_at layout target (at + j) ≡ Bit s c k → ⊥)
      → entry (table_in layout rows holds new) s c ≡ entry (table_in layout rows holds old) s c
  kept_entry s c d l m none =
      let hold = get_or holds c d in
      entry_is layout rows holds (bit_in new) s c d l m
      ∙ ap (decoded hold.signed hold.width)
      (number_same (λ k. bit_owned (Bit s c k) layout (bit_in new)) (λ k. bit_owned (Bit s c k) layout (bit_in old)) hold.width
      (λ k n.
      let place = laid.there s c k (stored rows holds s c k d l m n) in
      owned_is layout rows (map (λ (h : Hold). h.width) holds) (bit_in new) place.0 place.1 s c k laid place.2
      ∙ ⊎_elim
      (λ (here : (j : ℕ) × (j < count) × (place.0 ≡ target) × (place.1 ≡ at + j)). grind arith)
      (λ (stands : bit_in new place.0 place.1 ≡ bit_in old place.0 place.1). stands)
      (told others old new source from target at count moved place.0 place.1)
      ∙ sym (owned_is layout rows (map (λ (h : Hold). h.width) holds) (bit_in old) place.0 place.1 s c k laid place.2)))
      ∙ sym (entry_is layout rows holds (bit_in old) s c d l m)
