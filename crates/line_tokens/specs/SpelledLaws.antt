-- What is spelled is read back: a token that stands at the end or before a blank, and a whole line of tokens.
use Rattle.std.specs.Prelude.{◌≡◌, ℕ, zero, suc, ◌+◌, ◌-◌, Bool, true, false, List, [], ◌∷◌, ◌++◌, length, map, take, drop, slice_range, Some, ◌≤◌, ◌⊎◌, refl}
use Rattle.record_dim.specs.Std.{inl, inr, sym, ◌∙◌, ap, append_assoc, append-nil, add-zero, zero-add, length-append, arith, is_ascii_digit, prefix_len, AllPass, both_ways, cases_Bool, nat_tests, drop_at, take_at, length-prefix_len}
use Rattle.line_tokens.specs.Bytes.{is_space_byte, is_letter, is_word_byte}
use Rattle.line_tokens.specs.Tokens.{Begins, start_of, IsToken}
use Rattle.line_tokens.specs.Next.{next_of}
use Rattle.line_tokens.specs.Spots.{brackets_after, Spots}
use Rattle.line_tokens.specs.Spelled.{Written, Spells, MayOpen, AreSpelled, spaced, spaced_tokens, places, AreTokensOf}
use Rattle.line_tokens.specs.declared.token.Next.TheVariants.{End, Token}
use Rattle.line_tokens.specs.declared.token.TokenKind.{TokenKind}
use Rattle.line_tokens.specs.declared.token.TokenKind.TheVariants.{Word, Number, Text, Sign as SignKind}
use Rattle.line_tokens.specs.NextTokenLaws.{end_exactly, token_exactly, token_sized}
use Rattle.line_tokens.specs.DecimalLaws.{AllPass-take_prefix_len}
use Rattle.line_tokens.specs.SpotLaws.{token_room}
use Rattle.line_tokens.specs.SignsLaws.{sign_longest, sign_spelled}
use Rattle.line_tokens.specs.StringsLaws.{prefix_len-all, prefix_len-run}

-- the end, or a blank
abbrev pub IsParted : List ℕ → Type 0
IsParted after = (after ≡ []) ⊎ Begins is_space_byte after

-- a run of bytes that are not blank ends there
run_parted : (p : ℕ → Bool) (bytes after : List ℕ) → ((b : ℕ) → is_space_byte b ≡ true → p b ≡ false) → AllPass p bytes → IsParted after → prefix_len p (bytes ++ after) ≡ length bytes
run_parted p bytes [] apart pass parted = rw append-nil (prefix_len-all p bytes pass)
run_parted p bytes (c ∷ after) apart pass (inl e) = absurd cc
run_parted p bytes (c ∷ after) apart pass (inr blank) = prefix_len-run p bytes c after pass (apart c blank)

blank_is : (b : ℕ) → is_space_byte b ≡ true → (b ≡ 32) ⊎ (b ≡ 9)
blank_is b h = grind (arith, nat_tests)

blank_no_word : (b : ℕ) → is_space_byte b ≡ true → is_word_byte b ≡ false
blank_no_word b h = elim (blank_is b h) [ inl e ↦ rw e | inr e ↦ rw e ]

blank_no_digit : (b : ℕ) → is_space_byte b ≡ true → is_ascii_digit b ≡ false
blank_no_digit b h = elim (blank_is b h) [ inl e ↦ rw e | inr e ↦ rw e ]

begins_more : (p : ℕ → Bool) (bytes after : List ℕ) → Begins p bytes → Begins p (bytes ++ after)
begins_more p [] after h = absurd h
begins_more p (b ∷ bytes) after h = h

-- spelled bytes are a token there
token_spelled : (kind : TokenKind) (bytes after : List ℕ) (brackets : ℕ) → Spells kind bytes → MayOpen kind brackets → IsParted after → IsToken kind (length bytes) (bytes ++ after) brackets
token_spelled Word bytes after brackets h room parted = grind (arith, begins_more, run_parted, blank_no_word)
token_spelled (Number value) bytes after brackets h room parted = grind (arith, begins_more, is_ascii_digit, run_parted, blank_no_digit, take_at)
token_spelled Text bytes after brackets h room parted =
    let len = length-append h.0 (34 ∷ []) in
    (h.0, (after, ap (λ xs. xs ++ after) h.1), h.2, h.3, h.4, ap length h.1 ∙ omega arith)
token_spelled (SignKind sign) bytes after brackets h room parted = grind (arith, sign_longest)

-- spelled bytes begin with no blank

first_apart : (p : ℕ → Bool) (bytes after : List ℕ) → ((b : ℕ) → is_space_byte b ≡ true → p b ≡ false) → Begins p bytes → prefix_len is_space_byte (bytes ++ after) ≡ 0
first_apart p [] after apart h = absurd h
first_apart p (b ∷ bytes) after apart h = grind (arith, both_ways, cases_Bool)

blank_no_letter : (b : ℕ) → is_space_byte b ≡ true → is_letter b ≡ false
blank_no_letter b h = elim (blank_is b h) [ inl e ↦ rw e | inr e ↦ rw e ]

spelled_inked : (kind : TokenKind) (bytes after : List ℕ) → Spells kind bytes → prefix_len is_space_byte (bytes ++ after) ≡ 0
spelled_inked Word bytes after h = first_apart is_letter bytes after blank_no_letter h.0
spelled_inked (Number value) bytes after h = first_apart is_ascii_digit bytes after blank_no_digit h.0
spelled_inked Text bytes after h = rw h.1
spelled_inked (SignKind sign) bytes after h = grind (arith, sign_spelled)

blanks_before : (blanks rest : List ℕ) → AllPass is_space_byte blanks → prefix_len is_space_byte rest ≡ 0 → prefix_len is_space_byte (blanks ++ rest) ≡ length blanks
blanks_before [] rest pass inked = inked
blanks_before (b ∷ blanks) rest pass inked =
    let e = blanks_before blanks rest (λ k d l. pass (suc k) d (omega arith)) inked in
    rw (pass 0 0 (omega arith), e) (omega arith)

-- what is spelled behind blanks, at the end or before a blank, is the next token
pub next_spelled : (kind : TokenKind) (front blanks bytes after : List ℕ) (brackets : ℕ) →
    Spells kind bytes → MayOpen kind brackets → AllPass is_space_byte blanks → IsParted after →
    next_of (front ++ (blanks ++ (bytes ++ after))) (length front) brackets
    ≡ Token (length front + length blanks) (length front + length blanks + length bytes) kind
next_spelled kind front blanks bytes after brackets h room pass parted =
    let text : List ℕ = front ++ (blanks ++ (bytes ++ after)) in
    let at = length front in let from = length front + length blanks in
    let start : start_of text at ≡ from =
    rw (drop_at front (blanks ++ (bytes ++ after)) at refl, blanks_before blanks (bytes ++ after) pass (spelled_inked kind bytes after h)) in
    let rest : drop from text ≡ bytes ++ after =
    ap (λ xs. drop from xs) (sym (append_assoc front blanks (bytes ++ after)))
    ∙ drop_at (front ++ blanks) (bytes ++ after) from (length-append front blanks) in
    (token_exactly text at brackets from (from + length bytes) kind).1
    (sym start, length bytes, refl, rw rest (token_spelled kind bytes after brackets h room parted))

-- behind all tokens the text ends
end_spelled : (front : List ℕ) (brackets : ℕ) → next_of (front ++ []) (length front) brackets ≡ End
end_spelled front brackets = grind (arith, drop_at, end_exactly, add-zero)

spaced_parted : (tokens : List Written) → IsParted (spaced tokens)
spaced_parted [] = inl refl
spaced_parted (token ∷ tokens) = inr refl

grown : (n m : ℕ) → n + suc m ≡ n + 1 + m
grown n m = omega arith

-- tokens behind spaces are read back, each at its place
spaced_spots : (front : List ℕ) (tokens : List Written) (brackets : ℕ) → AreSpelled brackets tokens →
    Spots (front ++ spaced tokens) (length front) brackets (places (length front + 1) tokens)
spaced_spots front [] brackets h = end_spelled front brackets
spaced_spots front (token ∷ tokens) brackets h =
    let text : List ℕ = front ++ (32 ∷ (token.bytes ++ spaced tokens)) in
    let next : next_of text (length front) brackets ≡ Token (length front + 1) (length front + 1 + length token.bytes) token.kind =
    next_spelled token.kind front (32 ∷ []) token.bytes (spaced tokens) brackets h.0 h.1 one_blank (spaced_parted tokens) in
    let front' : List ℕ = front ++ (32 ∷ token.bytes) in
    let split : front' ++ spaced tokens ≡ text = append_assoc front (32 ∷ token.bytes) (spaced tokens) in
    let len : length front' ≡ length front + 1 + length token.bytes = length-append front (32 ∷ token.bytes) ∙ grown (length front) (length token.bytes) in
    let behind = spaced_spots front' tokens (brackets_after token.kind brackets) h.2 in
    (next, rw (split, len) at behind)
  where
    one_blank : AllPass is_space_byte (32 ∷ [])
    one_blank zero d l = refl
    one_blank (suc k) d l = absurd (omega arith)

-- a line of tokens is read back, each at its place
pub joined_spots : (tokens : List Written) → AreSpelled 0 tokens → Spots (spaced_tokens tokens) 0 0 (places 0 tokens)
joined_spots [] h = end_spelled [] 0
joined_spots (token ∷ tokens) h = (
  next_spelled token.kind [] [] token.bytes (spaced tokens) 0 h.0 h.1 no_blank (spaced_parted tokens),
  rw (zero-add (length token.bytes)) (spaced_spots token.bytes tokens (brackets_after token.kind 0) h.2),
)
  where
    no_blank : AllPass is_space_byte []
    no_blank k d l = absurd (omega arith)

-- the bytes at the places are those of the tokens

bytes_there : (front bytes after : List ℕ) (from : ℕ) → length front ≡ from → slice_range (front ++ (bytes ++ after)) from (from + length bytes) ≡ bytes
bytes_there front bytes after from e = grind (arith, drop_at, take_at)

spaced_bytes : (front : List ℕ) (tokens : List Written) →
    map (λ spot. slice_range (front ++ spaced tokens) spot.from spot.end) (places (length front + 1) tokens) ≡ map (λ token. token.bytes) tokens
spaced_bytes front [] = refl
spaced_bytes front (token ∷ tokens) =
    let text : List ℕ = front ++ (32 ∷ (token.bytes ++ spaced tokens)) in
    let from = length front + 1 in
    let shifted : (front ++ (32 ∷ [])) ++ (token.bytes ++ spaced tokens) ≡ text = append_assoc front (32 ∷ []) (token.bytes ++ spaced tokens) in
    let head : slice_range text from (from + length token.bytes) ≡ token.bytes =
    ap (λ xs. slice_range xs from (from + length token.bytes)) (sym shifted)
    ∙ bytes_there (front ++ (32 ∷ [])) token.bytes (spaced tokens) from (length-append front (32 ∷ [])) in
    let front' : List ℕ = front ++ (32 ∷ token.bytes) in
    let split : front' ++ spaced tokens ≡ text = append_assoc front (32 ∷ token.bytes) (spaced tokens) in
    let len : length front' ≡ from + length token.bytes = length-append front (32 ∷ token.bytes) ∙ grown (length front) (length token.bytes) in
    let tail = spaced_bytes front' tokens in
    let there : map (λ spot. slice_range text spot.from spot.end) (places (from + length token.bytes + 1) tokens) ≡ map (λ token. token.bytes) tokens = rw (split, len) at tail in
    ap (λ xs. xs ∷ map (λ spot. slice_range text spot.from spot.end) (places (from + length token.bytes + 1) tokens)) head
    ∙ ap (λ xs. token.bytes ∷ xs) there

pub joined_bytes : (tokens : List Written) →
    map (λ spot. slice_range (spaced_tokens tokens) spot.from spot.end) (places 0 tokens) ≡ map (λ token. token.bytes) tokens
joined_bytes [] = refl
joined_bytes (token ∷ tokens) =
    let text : List ℕ = token.bytes ++ spaced tokens in
    ap (λ xs. xs ∷ map (λ spot. slice_range text spot.from spot.end) (places (0 + length token.bytes + 1) tokens)) (bytes_there [] token.bytes (spaced tokens) 0 refl)
    ∙ ap (λ xs. token.bytes ∷ xs) (rw (zero-add (length token.bytes)) (spaced_bytes token.bytes tokens))

-- the other way round: what is read has the form of its kind

begins_take : (p : ℕ → Bool) (n : ℕ) (rest : List ℕ) → 1 ≤ n → Begins p rest → Begins p (take n rest)
begins_take p zero rest some h = absurd (omega arith)
begins_take p (suc n) [] some h = h
begins_take p (suc n) (b ∷ after) some h = h

pub token_spells : (kind : TokenKind) (n : ℕ) (rest : List ℕ) (brackets : ℕ) → IsToken kind n rest brackets → Spells kind (take n rest)
token_spells Word n rest brackets h = grind (arith, token_sized, length-prefix_len, begins_take, AllPass-take_prefix_len)
token_spells (Number value) n rest brackets h = grind (arith, token_sized, begins_take, is_ascii_digit, AllPass-take_prefix_len)
token_spells Text n rest brackets h =
    let string : List ℕ = 34 ∷ (h.0 ++ (34 ∷ [])) in
    let len : length string ≡ n = ap suc (length-append h.0 (34 ∷ [])) ∙ omega arith in
    (h.0, rw h.1.1 (take_at string h.1.0 n len), h.2, h.3, h.4)
token_spells (SignKind sign) n rest brackets h = grind (arith, take_at)

-- the same of a token at its place
pub next_spells : (text : List ℕ) (at brackets from end : ℕ) (kind : TokenKind) → next_of text at brackets ≡ Token from end kind →
    Spells kind (slice_range text from end) × MayOpen kind brackets
next_spells text at brackets from end kind e =
    let h = (token_exactly text at brackets from end kind).0 e in
    let len : end - from ≡ h.1 = omega arith in
    (rw len (token_spells kind h.1 (drop from text) brackets h.3), token_room kind h.1 (drop from text) brackets h.3)

kinds_placed : (at : ℕ) (tokens : List Written) → map (λ spot. spot.kind) (places at tokens) ≡ map (λ token. Some token.kind) tokens
kinds_placed at [] = refl
kinds_placed at (token ∷ tokens) = ap (λ xs. Some token.kind ∷ xs) (kinds_placed (at + length token.bytes + 1) tokens)

-- spelled tokens, joined by spaces, are read back
pub joined_read : (tokens : List Written) → AreSpelled 0 tokens → AreTokensOf (spaced_tokens tokens) tokens
joined_read tokens h = record { spots = places 0 tokens; read = joined_spots tokens h; kinds = kinds_placed 0 tokens; bytes = joined_bytes tokens }
