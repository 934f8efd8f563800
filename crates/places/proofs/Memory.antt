-- Writing and reading cells under a layout with the laws.
use Rattle.record_dim.specs.Std.{◌≡◌, ℕ, ◌<◌, ℤ, List, map, length, slice_index, ap, ◌∙◌, arith, cond-true, and_from, eq-eqb, get_or-map, length-map, slice_get_within, get_or_from_slice_get}
use Rattle.places.specs.Layout.{Owner, Bit, owner_at}
use Rattle.places.specs.Image.{digit, number, decoded, bit_owned}
use Rattle.places.specs.Lawful.{IsLaidOut}
use Rattle.places.specs.Writes.{written_bit, WritesKeepOthers, WritesReadBack}
use Rattle.places.specs.declared.piece.Hold.{Hold}
use Rattle.places.specs.NumbersLaws.{number_same, decoded_digits}
use Rattle.places.specs.OwnedLaws.{found_owned, owned_is}

-- bits that agree wherever an owner stands give it the same bit
pub owned_same : (layout : List (List Owner)) (slots : ℕ) (widths : List ℕ) (s c k : ℕ) (old new : ℕ → ℕ → ℕ) → IsLaidOut layout slots widths
    → ((b p : ℕ) → owner_at layout b p ≡ Bit s c k → new b p ≡ old b p) → bit_owned (Bit s c k) layout new ≡ bit_owned (Bit s c k) layout old
owned_same layout slots widths s c k old new laid same = grind (arith, owned_is, found_owned)

-- what a write leaves at a bit of the cell, and at another's
pub written_here : (slot cell k : ℕ) (value : ℤ) (old : ℕ) → written_bit (Bit slot cell k) slot cell value old ≡ digit value k
written_here slot cell k value old = grind (arith, cond-true, and_from, eq-eqb)

pub writes_keep_others : (layout : List (List Owner)) (slots : ℕ) (widths : List ℕ) → IsLaidOut layout slots widths → WritesKeepOthers layout
writes_keep_others layout slots widths laid slot cell value old new write s c signed width other =
    let same : (k : ℕ) → bit_owned (Bit s c k) layout new ≡ bit_owned (Bit s c k) layout old =
    λ k. owned_same layout slots widths s c k old new laid
    (λ b p e. grind arith) in
    grind (arith, number_same)

pub writes_read_back : (layout : List (List Owner)) (slots : ℕ) (holds : List Hold) → IsLaidOut layout slots (map (λ (h : Hold). h.width) holds)
    → WritesReadBack layout slots holds
writes_read_back layout slots holds laid slot cell hold value old new slot_in found inside write =
    let widths : List ℕ = map (λ (h : Hold). h.width) holds in
    let cell_in : cell < length holds = slice_get_within holds cell hold found in
    let size : length widths ≡ length holds = length-map holds (λ (h : Hold). h.width) in
    let width : slice_index widths cell ≡ hold.width =
    get_or-map (λ (h : Hold). h.width) holds cell hold 0 cell_in ∙ ap (λ (h : Hold). h.width) (get_or_from_slice_get holds cell hold hold found) in
    let bit : (k : ℕ) → k < hold.width → bit_owned (Bit slot cell k) layout new ≡ digit value k =
    λ k l.
    let at = laid.there slot cell k (record { slot_in = slot_in; cell_in = (omega arith); bit_in = omega arith }) in
    owned_is layout slots widths new at.0 at.1 slot cell k laid at.2
    ∙ write at.0 at.1
    ∙ ap (λ (o : Owner). written_bit o slot cell value (old at.0 at.1)) at.2
    ∙ written_here slot cell k value (old at.0 at.1) in
    let digits : number (λ k. bit_owned (Bit slot cell k) layout new) hold.width ≡ number (digit value) hold.width =
    number_same (λ k. bit_owned (Bit slot cell k) layout new) (digit value) hold.width bit in
    (ap (decoded hold.signed hold.width) digits) ∙ (decoded_digits hold.signed hold.width value (omega arith) inside)
