-- Tokens told by their text: words that are names, numbers and signs, with one space between each two.
use Rattle.blob_file.proofs.Imports.{◌≡◌, ℕ, ◌+◌, ◌<◌, ◌≤◌, ◌^◌, List, [], ◌∷◌, ◌++◌, length, map, refl, sym, ap, ◌∙◌, arith, true, pos, Some, append-nil, inl, inr, nat_le, and_parts, leb-true, nat_tests, AllPass-from_list_all, list_all, AllPass, NoEnd, no_end_append, joined_no_end, is_space_byte, is_word_byte, next_of, Spells, MayOpen, spaced, tokens_joined, IsParted, next_spelled, Found, TokenKind, Token, Word, Number, Sign, kind_token, Each, decimal_spells, written, is_word, is_name, begins_name, continues_name}
use Rattle.line_tokens.specs.declared.token.TokenKind.TheVariants as kind
use Rattle.blob_file.proofs.Parts.{same_fronts}

-- a name, a number or a sign
abbrev pub IsPlain : Token → Type 0
IsPlain (Word text) = is_name text ≡ true
IsPlain (Number (pos value)) = value < 2 ^ 127
IsPlain (Sign sign) = Unit {0}
IsPlain _ = ⊥

letter_in : (b : ℕ) → begins_name b ≡ true → is_word_byte b ≡ true
letter_in b h = grind (arith, nat_tests)

more_in : (b : ℕ) → continues_name b ≡ true → is_word_byte b ≡ true
more_in b h = grind (arith, nat_tests)

all_in : (text : List ℕ) → list_all continues_name text ≡ true → list_all is_word_byte text ≡ true
all_in [] h = refl
all_in (b ∷ text) h =
    let parts = and_parts (continues_name b) (list_all continues_name text) h in
    rw (more_in b parts.0) (all_in text parts.1)

word_spelled : (text : List ℕ) → is_word text ≡ true → length text ≤ 32 → Spells kind.Word text
word_spelled text h few = grind (arith, and_parts, list_all, letter_in, all_in, AllPass-from_list_all)

told_spelled : (token : Token) → IsPlain token → Spells (written token).kind (written token).bytes
told_spelled token told = grind (arith, and_parts, nat_le, word_spelled, leb-true, decimal_spells)

room : (kind : TokenKind) → MayOpen kind 0
room kind = grind arith

parted : (tokens : List Token) → IsParted (spaced (map written tokens))
parted [] = inl refl
parted (token ∷ tokens) = inr refl

no_blank : AllPass is_space_byte []
no_blank k d l = absurd (omega arith)

-- the first token of a text
next_is : (token : Token) (tokens : List Token) → IsPlain token →
    next_of ((written token).bytes ++ spaced (map written tokens)) 0 0 ≡ Found 0 (0 + length (written token).bytes) (written token).kind
next_is token tokens told =
    next_spelled (written token).kind [] [] (written token).bytes (spaced (map written tokens)) 0 (told_spelled token told) (room (written token).kind) no_blank (parted tokens)

-- a token by its kind and its bytes
token_back : (token : Token) → IsPlain token → kind_token (written token).bytes [] (Some (written token).kind) ≡ token
token_back token told = grind arith

same_spaced : (tokens others : List Token) → Each IsPlain tokens → Each IsPlain others → spaced (map written tokens) ≡ spaced (map written others) → tokens ≡ others
same_spaced [] [] told known same = refl
same_spaced [] (other ∷ others) told known same = absurd (let e : [] ≡ 32 ∷ ((written other).bytes ++ spaced (map written others)) = same in cc)
same_spaced (token ∷ tokens) [] told known same = absurd (let e : 32 ∷ ((written token).bytes ++ spaced (map written tokens)) ≡ [] = same in cc)
same_spaced (token ∷ tokens) (other ∷ others) told known same =
    let inner : (written token).bytes ++ spaced (map written tokens) ≡ (written other).bytes ++ spaced (map written others) = cc in
    let next : Found 0 (0 + length (written token).bytes) (written token).kind ≡ Found 0 (0 + length (written other).bytes) (written other).kind =
    sym (next_is token tokens told.0) ∙ ap (λ (text : List ℕ). next_of text 0 0) inner ∙ next_is other others known.0 in
    let end : 0 + length (written token).bytes ≡ 0 + length (written other).bytes = cc in
    let kind : (written token).kind ≡ (written other).kind = cc in
    let parts = same_fronts (written token).bytes (written other).bytes (spaced (map written tokens)) (spaced (map written others)) (omega (arith, end)) inner in
    let first : token ≡ other = grind (arith, token_back) in
    ap (λ (t : Token). t ∷ tokens) first ∙ ap (λ (ts : List Token). other ∷ ts) (same_spaced tokens others told.1 known.1 parts.1)

-- no text of such tokens is that of others, and none ends a line
pub same_tokens : (token other : Token) (tokens others : List Token) → Each IsPlain (token ∷ tokens) → Each IsPlain (other ∷ others) →
    tokens_joined (map written (token ∷ tokens)) ≡ tokens_joined (map written (other ∷ others)) → token ∷ tokens ≡ other ∷ others
same_tokens token other tokens others told known same = same_spaced (token ∷ tokens) (other ∷ others) told known (ap (λ (text : List ℕ). 32 ∷ text) same)

token_no_end : (token : Token) → IsPlain token → NoEnd (written token).bytes
token_no_end token told = rw append-nil at (joined_no_end (written token ∷ []) (told_spelled token told, room (written token).kind, tt))

spaced_no_end : (tokens : List Token) → Each IsPlain tokens → NoEnd (spaced (map written tokens))
spaced_no_end [] told = tt
spaced_no_end (token ∷ tokens) told = grind (arith, no_end_append, token_no_end, (spaced_no_end tokens told.1))

pub tokens_no_end : (tokens : List Token) → Each IsPlain tokens → NoEnd (tokens_joined (map written tokens))
tokens_no_end tokens told = grind (arith, spaced_no_end)
