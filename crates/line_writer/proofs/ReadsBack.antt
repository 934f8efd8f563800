-- The canonical text of a line that is read has its canonical tokens, and is read as the same line.
use Rattle.line_writer.proofs.Imports.{◌≡◌, ℕ, suc, ◌+◌, ◌<◌, ◌≤◌, ◌-◌, List, [], ◌∷◌, ◌++◌, map, length, take, drop, refl, sym, ap, ◌∙◌, append_assoc, arith, Option, Some, None, subst, pos, true, ◌^◌, slice_range, list_all, AllPass, decimal, decimal_is_IsNumeral_wide, nat_tests, digit_from_value, append_cancel_right, drop-drop, length-append, take_at, AllPass-from_list_all, is_ascii_digit, AllDigits, spaced_tokens, Spells, MayOpen, AreSpelled, Token, Word, Sign, Number, Text, Bad, Sentence, deepest, Is, Version, kind_token, line, is_text_byte, joined_no_end, NoEnd, next_of, brackets_after, Spots, Begins, Spot, Found, TokenKind, token_exactly, next_spells, joined_read, spot_at, both, tokens_of, Reads, line_tokens, written, canonical}
use Rattle.line_tokens.specs.declared.token.TokenKind.TheVariants as kind
use Rattle.line_writer.proofs.Gives.{IsClean, IsSpelled, Each, sound}
use Rattle.line_writer.proofs.Sounds.{line_sound}
use Rattle.line_writer.proofs.Rooms.{fits_alone}
use Rattle.line_writer.proofs.Lines.{IsDone, line_done}

-- decimal digits spell their number
digit_passes : (c : ℕ) → (48 ≤ c) × (c ≤ 57) → is_ascii_digit c ≡ true
digit_passes c h = grind (arith, nat_tests)

digits_pass : (ds : List ℕ) → AllDigits 10 ds → list_all is_ascii_digit ds ≡ true
digits_pass [] h = refl
digits_pass (d ∷ ds) h = rw (digit_passes d (digit_from_value d h.0)) (digits_pass ds h.1)

digits_begin : (ds : List ℕ) → 0 < length ds → list_all is_ascii_digit ds ≡ true → Begins is_ascii_digit ds
digits_begin ds some all = grind (arith, both)

pub decimal_spells : (n : ℕ) → n < 2 ^ 127 → Spells (kind.Number (pos n)) (decimal n)
decimal_spells n small =
    let numeral = decimal_is_IsNumeral_wide n (omega arith) in
    let all = digits_pass (decimal n) numeral.0.1 in
    (digits_begin (decimal n) numeral.0.0 all, AllPass-from_list_all is_ascii_digit (decimal n) all, rw numeral.1 small, ap pos (sym numeral.1))

-- what stands between the quotes of a string
record Quoted (text : List ℕ) (from end : ℕ) : Type 0 where
  inside : List ℕ
  whole : slice_range text from end ≡ 34 ∷ (inside ++ 34 ∷ [])
  between : slice_range text (from + 1) (end - 1) ≡ inside
  bytes : AllPass is_text_byte inside
  some : 1 ≤ length inside
  few : length inside ≤ 200

string_quoted : (text : List ℕ) (at brackets from end : ℕ) → next_of text at brackets ≡ Found from end kind.Text → Quoted text from end
string_quoted text at brackets from end e =
    let h = (token_exactly text at brackets from end kind.Text).0 e in
    let inside : List ℕ = h.3.0 in let after : List ℕ = h.3.1.0 in
    let rest : drop from text ≡ (34 ∷ (inside ++ 34 ∷ [])) ++ after = h.3.1.1 in
    let n : h.1 ≡ length inside + 2 = h.3.5 in
    let long : length (34 ∷ (inside ++ 34 ∷ [])) ≡ end - from = ap suc (length-append inside (34 ∷ [])) ∙ omega arith in
    let short : length inside ≡ end - 1 - (from + 1) = omega arith in
    record {
      inside = inside;
      whole = ap (λ k. take (end - from) k) rest ∙ take_at (34 ∷ (inside ++ 34 ∷ [])) after (end - from) long;
      between = ap (λ k. take (end - 1 - (from + 1)) k) (sym (drop-drop 1 from text) ∙ ap (λ k. drop 1 k) rest ∙ append_assoc inside (34 ∷ []) after)
          ∙ take_at inside (34 ∷ after) (end - 1 - (from + 1)) short;
      bytes = h.3.2;
      some = h.3.3;
      few = h.3.4;
    }

-- a token of a text is spelled, and has its kind
abbrev token_at : List ℕ → ℕ → ℕ → TokenKind → Token
token_at text from end kind = kind_token (slice_range text from end) (slice_range text (from + 1) (end - 1)) (Some kind)

token_spelled : (text : List ℕ) (at brackets from end : ℕ) (kind : TokenKind) → next_of text at brackets ≡ Found from end kind →
    IsClean (token_at text from end kind) × ((written (token_at text from end kind)).kind ≡ kind)
token_spelled text at brackets from end kind.Word e = ((next_spells text at brackets from end kind.Word e).0, refl)
token_spelled text at brackets from end (kind.Number value) e =
    let spelled = (next_spells text at brackets from end (kind.Number value) e).0 in
    (rw spelled.3 (decimal_spells _ spelled.2), refl)
token_spelled text at brackets from end kind.Text e =
    let q = string_quoted text at brackets from end e in
    (rw q.between (q.inside, refl, q.bytes, q.some, q.few), refl)
token_spelled text at brackets from end (kind.Sign sign) e = (refl, refl)

clean_step : (text : List ℕ) (at brackets from end : ℕ) (k : Option TokenKind) (rest : List Spot) →
    ((at brackets : ℕ) → Spots text at brackets rest → Each IsClean (tokens_of text rest)) → Spots text at brackets (spot_at from end k ∷ rest) → Each IsClean (tokens_of text (spot_at from end k ∷ rest))
clean_step text at brackets from end k rest behind h = grind (arith, token_spelled)

spots_clean : (text : List ℕ) (at brackets : ℕ) (spots : List Spot) → Spots text at brackets spots → Each IsClean (tokens_of text spots)
spots_clean text at brackets [] h = tt
spots_clean text at brackets (spot ∷ spots) h = clean_step text at brackets spot.from spot.end spot.kind spots (λ at' brackets'. spots_clean text at' brackets' spots) h

-- spelled tokens of a text have room
room_step : (text : List ℕ) (at brackets from end : ℕ) (k : Option TokenKind) (rest : List Spot) →
    ((at brackets : ℕ) → Spots text at brackets rest → Each IsSpelled (tokens_of text rest) → AreSpelled brackets (map written (tokens_of text rest))) →
    Spots text at brackets (spot_at from end k ∷ rest) → Each IsSpelled (tokens_of text (spot_at from end k ∷ rest)) → AreSpelled brackets (map written (tokens_of text (spot_at from end k ∷ rest)))
room_step text at brackets from end None rest behind h spelled = absurd spelled.0.0
room_step text at brackets from end (Some kind) rest behind h spelled =
    let same = (token_spelled text at brackets from end kind h.0).1 in
    let room = (next_spells text at brackets from end kind h.0).1 in
    let after = behind end (brackets_after kind brackets) h.1 spelled.1 in
    (spelled.0, subst (λ k. MayOpen k brackets) (sym same) room, subst (λ k. AreSpelled (brackets_after k brackets) (map written (tokens_of text rest))) (sym same) after)

spots_room : (text : List ℕ) (at brackets : ℕ) (spots : List Spot) → Spots text at brackets spots → Each IsSpelled (tokens_of text spots) → AreSpelled brackets (map written (tokens_of text spots))
spots_room text at brackets [] h spelled = tt
spots_room text at brackets (spot ∷ spots) h spelled = room_step text at brackets spot.from spot.end spot.kind spots (λ at' brackets'. spots_room text at' brackets' spots) h spelled

-- written tokens are read as they were
token_back : (text : List ℕ) (at brackets from end : ℕ) (token : Token) → next_of text at brackets ≡ Found from end (written token).kind →
    slice_range text from end ≡ (written token).bytes → IsSpelled token → token_at text from end (written token).kind ≡ token
token_back text at brackets from end (Word word) e bytes spelled = ap Word bytes
token_back text at brackets from end (Number value) e bytes spelled = refl
token_back text at brackets from end (Text inside) e bytes spelled =
    let q = string_quoted text at brackets from end e in
    let whole : 34 ∷ (q.inside ++ 34 ∷ []) ≡ 34 ∷ (inside ++ 34 ∷ []) = sym q.whole ∙ bytes in
    let tail : q.inside ++ 34 ∷ [] ≡ inside ++ 34 ∷ [] = cc in
    ap Text (q.between ∙ append_cancel_right q.inside inside (34 ∷ []) tail)
token_back text at brackets from end (Sign sign) e bytes spelled = refl
token_back text at brackets from end Bad e bytes spelled = absurd spelled.0

back_step : (text : List ℕ) (at brackets from end : ℕ) (k : Option TokenKind) (rest : List Spot) (token : Token) (tokens : List Token) →
    ((at brackets : ℕ) → Spots text at brackets rest → tokens_of text rest ≡ tokens) → Spots text at brackets (spot_at from end k ∷ rest) →
    k ≡ Some (written token).kind → slice_range text from end ≡ (written token).bytes → IsSpelled token → tokens_of text (spot_at from end k ∷ rest) ≡ token ∷ tokens
back_step text at brackets from end k rest token tokens behind h kind bytes spelled = grind (arith, token_back)

spots_back : (text : List ℕ) (at brackets : ℕ) (spots : List Spot) (tokens : List Token) → Spots text at brackets spots →
    map (λ spot. spot.kind) spots ≡ map (λ token. Some token.kind) (map written tokens) →
    map (λ spot. slice_range text spot.from spot.end) spots ≡ map (λ token. token.bytes) (map written tokens) → Each IsSpelled tokens → tokens_of text spots ≡ tokens
spots_back text at brackets [] [] h kinds bytes spelled = refl
spots_back text at brackets [] (token ∷ tokens) h kinds bytes spelled = absurd cc
spots_back text at brackets (spot ∷ spots) [] h kinds bytes spelled = absurd cc
spots_back text at brackets (spot ∷ spots) (token ∷ tokens) h kinds bytes spelled =
    let kind : spot.kind ≡ Some (written token).kind = cc in
    let own : slice_range text spot.from spot.end ≡ (written token).bytes = cc in
    let kinds' : map (λ s. s.kind) spots ≡ map (λ t. Some t.kind) (map written tokens) = cc in
    let bytes' : map (λ s. slice_range text s.from s.end) spots ≡ map (λ t. t.bytes) (map written tokens) = cc in
    back_step text at brackets spot.from spot.end spot.kind spots token tokens (λ at' brackets' h'. spots_back text at' brackets' spots tokens h' kinds' bytes' spelled.1) h kind own spelled.0

each_spelled : (brackets : ℕ) (tokens : List Token) → AreSpelled brackets (map written tokens) → Each IsSpelled tokens
each_spelled brackets [] h = tt
each_spelled brackets (token ∷ tokens) h = (h.0, each_spelled (brackets_after (written token).kind brackets) tokens h.2)

pub joined_reads : (version : Version) (tokens : List Token) (sentence : Sentence) → AreSpelled 0 (map written tokens) → Is (line version) tokens sentence → Reads version (spaced_tokens (map written tokens)) sentence
joined_reads version tokens sentence spelled is = grind (arith, joined_read, spots_back, each_spelled)

-- the canonical tokens of a line are spelled, and are read as this line
pub record IsRead (version : Version) (sentence : Sentence) : Type 0 where
  pub spelled : AreSpelled 0 (map written (line_tokens sentence))
  pub line : Is (line version) (line_tokens sentence) sentence

done_read : (version : Version) (tokens : List Token) (sentence : Sentence) → Is (line version) tokens sentence → AreSpelled 0 (map written tokens) → deepest sentence ≤ 32 → IsDone version tokens sentence → IsRead version sentence
done_read version tokens sentence is spelled small h = grind (arith, fits_alone)

pub tokens_read : (version : Version) (text : List ℕ) (sentence : Sentence) → Reads version text sentence → deepest sentence ≤ 32 → IsRead version sentence
tokens_read version text sentence h small = grind (arith, sound, line_sound, spots_clean, done_read, spots_room, line_done)

-- the canonical text of a line that some text is, with no expression deeper than 32, is this line
pub reads_back : (version : Version) (text : List ℕ) (sentence : Sentence) → Reads version text sentence → deepest sentence ≤ 32 → Reads version (canonical sentence) sentence
unfolding canonical
reads_back version text sentence h small = grind (arith, tokens_read, joined_reads)

-- its canonical tokens are spelled, and open no 65th bracket
pub are_spelled : (version : Version) (text : List ℕ) (sentence : Sentence) → Reads version text sentence → deepest sentence ≤ 32 → AreSpelled 0 (map written (line_tokens sentence))
are_spelled version text sentence h small = (tokens_read version text sentence h small).spelled

-- it ends no line
pub no_end : (version : Version) (text : List ℕ) (sentence : Sentence) → Reads version text sentence → deepest sentence ≤ 32 → NoEnd (canonical sentence)
unfolding canonical
no_end version text sentence h small = joined_no_end (map written (line_tokens sentence)) (are_spelled version text sentence h small)
