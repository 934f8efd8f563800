-- `next_of` gives exactly what the relations say stands next.
use Rattle.std.specs.Prelude.{◌≡◌, ℕ, ◌+◌, ◌-◌, ◌≤◌, List, [], ◌∷◌, length, drop, Option, Some, None, ◌↔◌, refl, ℤ, pos, slice_range}
use Rattle.record_dim.specs.Std.{inl, inr, ⊎_elim, length-append, length-drop, arith, is_ascii_digit, digits_value, cases_Bool, prefix_len-le-length}
use Rattle.line_tokens.specs.Bytes.{is_space_byte, is_hash}
use Rattle.line_tokens.specs.Signs.{spelling}
use Rattle.line_tokens.specs.Tokens.{start_of, rest_of, StartsWith, IsEnd, IsToken, IsBad, IsBadFrom, IsTokenFrom, IsInside}
use Rattle.line_tokens.specs.Next.{token_at, placed, standing, next_of}
use Rattle.line_tokens.specs.declared.token.Next.{Next}
use Rattle.line_tokens.specs.declared.token.Next.TheVariants.{End, Bad, Token}
use Rattle.line_tokens.specs.declared.token.TokenKind.{TokenKind}
use Rattle.line_tokens.specs.declared.token.TokenKind.TheVariants.{Word, Number, Text, Sign as SignKind}
use Rattle.line_tokens.specs.SignsLaws.{sign_len}
use Rattle.line_tokens.specs.StandingLaws.{TokenTells, standing_hash, standing_token, token_tells, token_found, bad_found}

-- what stands at the front of `rest`, which begins at place `from`
abbrev pub StandsAs : ℕ → List ℕ → ℕ → Next → Type 0
StandsAs from rest brackets End = IsEnd rest
StandsAs from rest brackets (Bad place) = (place ≡ from) × IsBad rest brackets
StandsAs from rest brackets (Token place end kind) = (place ≡ from) × (n : ℕ) × (end ≡ place + n) × IsToken kind n rest brackets

placed_tells : (from : ℕ) (rest : List ℕ) (brackets : ℕ) (o : Option (ℕ × TokenKind)) → TokenTells rest brackets o → StandsAs from rest brackets (placed from o)
placed_tells from rest brackets None h = (refl, h)
placed_tells from rest brackets (Some token) h = (refl, token.0, refl, h)

standing_tells : (from : ℕ) (rest : List ℕ) (brackets : ℕ) → StandsAs from rest brackets (standing from rest brackets)
standing_tells from [] brackets = inl refl
standing_tells from (b ∷ after) brackets = ⊎_elim
    (λ h. rw (standing_hash from b after brackets h) (inr h))
    (λ h. rw (standing_token from b after brackets h) (placed_tells from (b ∷ after) brackets (token_at (b ∷ after) brackets) (token_tells b after brackets h)))
    (cases_Bool (is_hash b))

no_sign_in_nil : (bytes : List ℕ) → 1 ≤ length bytes → StartsWith bytes [] → ⊥
no_sign_in_nil [] some h = omega arith
no_sign_in_nil (b ∷ bytes) some h = let e = h.1 in cc

no_token_in_nil : (kind : TokenKind) (n brackets : ℕ) → IsToken kind n [] brackets → ⊥
no_token_in_nil Word n brackets h = h.0
no_token_in_nil (Number value) n brackets h = h.0
no_token_in_nil Text n brackets h = let e = h.1.1 in cc
no_token_in_nil (SignKind sign) n brackets h = no_sign_in_nil (spelling sign) (sign_len sign).0 h.0.0

no_bad_in_nil : (brackets : ℕ) → IsBad [] brackets → ⊥
no_bad_in_nil brackets h = grind (arith, no_sign_in_nil, sign_len)

standing_only : (from : ℕ) (rest : List ℕ) (brackets : ℕ) (next : Next) → StandsAs from rest brackets next → standing from rest brackets ≡ next
standing_only from [] brackets End h = refl
standing_only from [] brackets (Bad place) h = absurd (no_bad_in_nil brackets h.1)
standing_only from [] brackets (Token place end kind) h = absurd (no_token_in_nil kind h.1 brackets h.3)
standing_only from (b ∷ after) brackets End h = grind (arith, standing_hash)
standing_only from (b ∷ after) brackets (Bad place) h = grind (arith, bad_found, standing_token)
standing_only from (b ∷ after) brackets (Token place end kind) h = grind (arith, token_found, standing_token)

-- the clauses of the next token

pub end_exactly : (text : List ℕ) (at brackets : ℕ) → (next_of text at brackets ≡ End) ↔ IsEnd (rest_of text at)
end_exactly text at brackets = grind (arith, standing_tells, standing_only)

pub bad_exactly : (text : List ℕ) (at brackets from : ℕ) → (next_of text at brackets ≡ Bad from) ↔ IsBadFrom text at brackets from
bad_exactly text at brackets from =
    let start = start_of text at in let rest = rest_of text at in (
      λ e. let h = rw e at (standing_tells start rest brackets) in (h.0, rw h.0 h.1),
      λ h. standing_only start rest brackets (Bad from) (h.0, rw h.0 at h.1),
    )

pub token_exactly : (text : List ℕ) (at brackets from end : ℕ) (kind : TokenKind) → (next_of text at brackets ≡ Token from end kind) ↔ IsTokenFrom text at brackets from end kind
token_exactly text at brackets from end kind =
    let start = start_of text at in let rest = rest_of text at in (
      λ e. let h = rw e at (standing_tells start rest brackets) in (h.0, h.1, h.2, rw h.0 h.3),
      λ h. standing_only start rest brackets (Token from end kind) (h.0, h.1, h.2, rw h.0 at h.3),
    )

pub number_value : (text : List ℕ) (at brackets from end : ℕ) (value : ℤ) → next_of text at brackets ≡ Token from end (Number value) → value ≡ pos (digits_value 10 (slice_range text from end))
number_value text at brackets from end value e =
    let h = (token_exactly text at brackets from end (Number value)).0 e in
    let len : end - from ≡ h.1 = omega arith in
    rw len h.3.3

-- how many bytes a token has

pub token_sized : (kind : TokenKind) (n : ℕ) (rest : List ℕ) (brackets : ℕ) → IsToken kind n rest brackets → (1 ≤ n) × (n ≤ length rest)
token_sized kind n [] brackets h = absurd (no_token_in_nil kind n brackets h)
token_sized Word n (b ∷ after) brackets h = grind (arith, prefix_len-le-length)
token_sized (Number value) n (b ∷ after) brackets h = grind (arith, is_ascii_digit, prefix_len-le-length)
token_sized Text n (b ∷ after) brackets h = grind (arith, length-append)
token_sized (SignKind sign) n (b ∷ after) brackets h = grind (arith, sign_len)

start_inside : (text : List ℕ) (at : ℕ) → at ≤ length text → (at ≤ start_of text at) × (start_of text at ≤ length text)
start_inside text at l = (omega arith, omega (arith, prefix_len-le-length is_space_byte (drop at text), length-drop at text))

bad_some : (rest : List ℕ) (brackets : ℕ) → IsBad rest brackets → 1 ≤ length rest
bad_some [] brackets h = absurd (no_bad_in_nil brackets h)
bad_some (b ∷ after) brackets h = omega arith

inside : (text : List ℕ) (at brackets : ℕ) (next : Next) → at ≤ length text → next_of text at brackets ≡ next → IsInside text at next
inside text at brackets End l e = tt
inside text at brackets (Bad from) l e =
    let h = (bad_exactly text at brackets from).0 e in
    let start = start_inside text at l in
    let some = bad_some (drop from text) brackets h.1 in
    let same = h.0 in
    (omega arith, omega (arith, length-drop from text))
inside text at brackets (Token from end kind) l e =
    let h = (token_exactly text at brackets from end kind).0 e in
    let start = start_inside text at l in
    let sized = token_sized kind h.1 (drop from text) brackets h.3 in
    let same = h.0 in let ends = h.2 in
    (omega arith, omega arith, omega (arith, length-drop from text))

pub next_inside : (text : List ℕ) (at brackets : ℕ) → at ≤ length text → IsInside text at (next_of text at brackets)
next_inside text at brackets l = inside text at brackets (next_of text at brackets) l refl
