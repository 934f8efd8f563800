-- What stands at the places of rules: that it is where the rules say.
use Rattle.piece_bits.proofs.Imports.{◌≡◌, ◌≢◌, ℕ, ◌+◌, ◌-◌, ◌*◌, ◌/◌, ◌%◌, ◌^◌, ◌<◌, ◌≤◌, All, List, [], ◌∷◌, map, length, get_or, refl, sym, ap, ◌∙◌, subst, arith, same_lists, length-map, get_or-map, Hold, Piece, begins_fit, begin_in, piece_in, pieces_in, PieceRule, turned_pieces, Field, Word, Carries, place_by, pieces_by, StandsFor, IsHeldBy, IsWhole, IsTurned, IsTurnedByte, AreTurned, IsScatteredByte, AreScattered, IsInBytes, IsInBits, IsStandFor, Stand, rules}
use Rattle.piece_bits.specs.declared.word.Word.TheVariants as stored
use Rattle.piece_bits.proofs.Places.{same_steps, same_piece}
use Rattle.piece_bits.proofs.Together.{piece}
use Rattle.piece_bits.proofs.WordLaws.{whole_held, turned_held, turned_by, length-turned, get_or-turned}

-- the place of a slot
abbrev place_of : Stand → ℕ → ℕ
place_of stand slot = place_by stand.base stand.block stand.lane stand.power slot

-- the same pieces stand there, at a place that fits where those of the rules do
stands_from : (rules : List PieceRule) (field : Field) (stand : Stand)
    → ((slot : ℕ) → pieces_in rules slot ≡ pieces_by stand.word field stand.blob rules (place_of stand slot))
    → ((slot : ℕ) → All (λ rule. begin_in rule slot < 2 ^ 64) rules → place_of stand slot < 2 ^ 64)
    → StandsFor rules stand.word field stand.blob stand.base stand.block stand.lane stand.power
stands_from rules field stand same fits = grind (arith, begins_fit)

-- ---- one piece

pub whole_stand : (one : PieceRule) (word : Word) (hold : Hold) (stand : Stand) → IsInBytes one word stand → IsWhole word hold.signed hold.width
    → one.bits ≡ hold.width → IsStandFor (one ∷ []) hold stand
whole_stand one word hold stand h whole bits = λ field signed width.
    record {
      held = whole_held stand.word hold field (subst (λ (w : Word). IsWhole w hold.signed hold.width) (sym h.word) whole);
      stands = stands_from (one ∷ []) field stand
          (λ slot. grind (arith, same_piece))
          (λ slot fit. grind arith);
      low = h.low;
    }

-- whole bytes stand together, and so does a field
pub whole_together : (one : PieceRule) (word : Word) (hold : Hold) (stand : Stand) → IsInBytes one word stand → IsWhole word hold.signed hold.width
    → stand.word ≢ stored.Scattered
whole_together one word hold stand h whole = λ is. subst (λ (w : Word). IsWhole w hold.signed hold.width) (sym h.word ∙ is) whole

pub field_together : (one : PieceRule) (stand : Stand) → IsInBits one stand → stand.word ≢ stored.Scattered
field_together one stand h = λ is. cc

pub field_stand : (one : PieceRule) (hold : Hold) (stand : Stand) → IsInBits one stand → one.bits ≤ 57 → one.bits ≡ hold.width → IsStandFor (one ∷ []) hold stand
field_stand one hold stand h narrow bits = λ field signed width.
    record {
      held = subst (λ (w : Word). IsHeldBy hold w field) (sym h.word) (record { signed = signed; wide = width; narrow = λ _. omega (arith, width, bits, narrow) });
      stands = stands_from (one ∷ []) field stand
          (λ slot. grind (arith, same_piece))
          (λ slot fit. grind arith);
      low = h.low;
    }

-- pieces that follow each other as one
pub carried_stand : (rules : List PieceRule) (one : PieceRule) (hold : Hold) (stand : Stand) → Carries rules (one ∷ []) → stand.word ≢ stored.Scattered
    → IsStandFor (one ∷ []) hold stand → IsStandFor rules hold stand
carried_stand rules one hold stand carry together h = λ field signed width.
    let is = h field signed width in
    record {
      held = is.held;
      stands = λ layout row cell size slot placed.
          let there = is.stands layout row cell size slot (carry layout row cell size slot placed) in grind arith;
      low = is.low;
    }

-- ---- several pieces

turned_same : (rules : List PieceRule) (last : PieceRule) (word : Word) (stand : Stand) (slot : ℕ) → IsInBytes last word stand → AreTurned rules last
    → pieces_in rules slot ≡ turned_pieces stand.blob (8 * place_of stand slot) (length rules)
turned_same rules last word stand slot h turned =
    let n : ℕ = length rules in
    let bit : ℕ = 8 * place_of stand slot in
    let here : length (pieces_in rules slot) ≡ n = length-map rules (λ (rule : PieceRule). piece_in rule slot) in
    same_lists (pieces_in rules slot) (turned_pieces stand.blob bit n) (here ∙ sym (length-turned stand.blob bit n))
    (λ k d inside.
    let is : IsTurnedByte last (n - 1 - k) (get_or rules k last) = turned k last (omega (arith, here)) in
    grind (arith, get_or-map, same_piece, get_or-turned))

pub turned_stand : (rules : List PieceRule) (last : PieceRule) (word : Word) (hold : Hold) (stand : Stand) → IsInBytes last word stand
    → IsTurned word hold.signed hold.width → 8 * length rules ≡ hold.width → AreTurned rules last → IsStandFor rules hold stand
turned_stand rules last word hold stand h is size turned = λ field signed width.
    let is' : IsTurned stand.word hold.signed hold.width = subst (λ (w : Word). IsTurned w hold.signed hold.width) (sym h.word) is in
    record {
      held = turned_held stand.word hold field is';
      stands = stands_from rules field stand
          (λ slot. turned_same rules last word stand slot h turned
          ∙ turned_by stand.word hold.signed hold.width (length rules) field stand.blob rules (place_of stand slot) is' size)
          (λ slot fit. grind arith);
      low = h.low;
    }

-- the steps from slot to slot, of bytes that each stand by themselves
abbrev steps_of : Stand → ℕ → ℕ
steps_of stand slot = slot / 2 ^ stand.power * stand.block + slot % 2 ^ stand.power * stand.lane

scattered_begins : (first byte : PieceRule) (stand : Stand) (slot : ℕ) → IsInBytes first stored.Scattered stand → IsScatteredByte first byte
    → begin_in byte slot ≡ 8 * (byte.base / 8 + steps_of stand slot)
scattered_begins first byte stand slot h is = grind (arith, same_steps)

pub scattered_stand : (rules : List PieceRule) (first : PieceRule) (hold : Hold) (stand moved : Stand) → IsInBytes first stored.Scattered stand → 0 < length rules
    → AreScattered rules first → moved ≡ record { word = stand.word; blob = stand.blob; base = 0; block = stand.block; lane = stand.lane; power = stand.power }
    → IsStandFor rules hold moved
scattered_stand rules first hold stand moved h some scattered is =
    subst (λ (s : Stand). IsStandFor rules hold s) (sym is)
    (λ field signed width.
    let there : Stand = record { word = stand.word; blob = stand.blob; base = 0; block = stand.block; lane = stand.lane; power = stand.power } in
    let place : (slot : ℕ) → place_of there slot ≡ steps_of stand slot = λ slot. omega arith in
    record {
      held = subst (λ (w : Word). IsHeldBy hold w field) (sym h.word) (record { signed = signed; wide = width; narrow = λ e. cc });
      stands = stands_from rules field there
          (λ slot.
          let byte_at : PieceRule → Piece = λ rule. piece rule.blob (8 * (rule.base / 8 + place_of there slot)) 8 in
          let here : length (pieces_in rules slot) ≡ length rules = length-map rules (λ (rule : PieceRule). piece_in rule slot) in
          same_lists (pieces_in rules slot) (map byte_at rules) (here ∙ sym (length-map rules byte_at))
          (λ k d inside.
          let low : k < length rules = omega (arith, here) in
          let byte : PieceRule = get_or rules k first in
          let is : IsScatteredByte first byte = scattered k first low in
          let begins : begin_in byte slot ≡ 8 * (byte.base / 8 + place_of there slot) = omega (arith, scattered_begins first byte stand slot h is, place slot) in
          get_or-map (λ (rule : PieceRule). piece_in rule slot) rules k first d low
          ∙ same_piece byte.blob byte.blob (begin_in byte slot) (8 * (byte.base / 8 + place_of there slot)) byte.bits 8 refl begins is.along.bits
          ∙ sym (get_or-map byte_at rules k first d low))
          ∙ ap (λ (w : Word). pieces_by w field stand.blob rules (place_of there slot)) (sym h.word))
          (λ slot fit. grind (arith, scattered_begins));
      low = h.low;
    })
