-- A text has exactly one list of tokens, and each lies within the text.
use Rattle.std.specs.Prelude.{◌≡◌, ℕ, ◌≤◌, List, [], ◌∷◌, ◌++◌, length, All, drop, Option, Some, None, refl}
use Rattle.record_dim.specs.Std.{append_assoc, arith, cond_both}
use Rattle.line_tokens.specs.Tokens.{IsToken}
use Rattle.line_tokens.specs.Next.{next_of}
use Rattle.line_tokens.specs.Spelled.{MayOpen}
use Rattle.line_tokens.specs.Spots.{brackets_after, Spots}
use Rattle.line_tokens.specs.declared.spots.Spot.{Spot}
use Rattle.line_tokens.specs.declared.token.Next.TheVariants.{End, Token}
use Rattle.line_tokens.specs.declared.token.TokenKind.{TokenKind}
use Rattle.line_tokens.specs.declared.token.TokenKind.TheVariants.{Sign as SignKind}
use Rattle.line_tokens.specs.NextTokenLaws.{token_exactly, next_inside}

-- a spot with these fields
abbrev pub spot_at : ℕ → ℕ → Option TokenKind → Spot
spot_at from end kind = record { from = from; end = end; kind = kind }

-- no token opens a 65th bracket
after_few : (kind : TokenKind) (brackets : ℕ) → MayOpen kind brackets → brackets ≤ 64 → brackets_after kind brackets ≤ 64
after_few (SignKind sign) brackets room few = grind (arith, cond_both)
after_few other brackets room few = few

pub token_room : (kind : TokenKind) (n : ℕ) (rest : List ℕ) (brackets : ℕ) → IsToken kind n rest brackets → MayOpen kind brackets
token_room (SignKind sign) n rest brackets h = h.1
token_room other n rest brackets h = tt

pub brackets_after-le : (text : List ℕ) (at brackets from end : ℕ) (kind : TokenKind) → next_of text at brackets ≡ Token from end kind → brackets ≤ 64 → brackets_after kind brackets ≤ 64
brackets_after-le text at brackets from end kind e few =
    let h = (token_exactly text at brackets from end kind).0 e in
    after_few kind brackets (token_room kind h.1 (drop from text) brackets h.3) few

-- one token more in front of the tokens behind it
pub Spots-more : (text : List ℕ) (found : List Spot) (at brackets : ℕ) (spot : Spot) (kind : TokenKind) →
    spot.kind ≡ Some kind → next_of text at brackets ≡ Token spot.from spot.end kind →
    ((rest : List Spot) → Spots text at brackets rest → Spots text 0 0 (found ++ rest)) →
    (rest : List Spot) → Spots text spot.end (brackets_after kind brackets) rest → Spots text 0 0 ((found ++ (spot ∷ [])) ++ rest)
Spots-more text found at brackets spot kind k e before rest h = grind (arith, append_assoc)

not_end : (text : List ℕ) (at brackets from end : ℕ) (kind : Option TokenKind) (rest : List Spot) →
    next_of text at brackets ≡ End → Spots text at brackets (spot_at from end kind ∷ rest) → ⊥
not_end text at brackets from end None rest e h = let bad = h.0 in cc
not_end text at brackets from end (Some kind) rest e h = let token = h.0 in cc

same_step : (text : List ℕ) (at brackets : ℕ) (f e : ℕ) (k : Option TokenKind) (xs : List Spot) (f' e' : ℕ) (k' : Option TokenKind) (ys : List Spot) →
    ((at brackets : ℕ) (zs : List Spot) → Spots text at brackets xs → Spots text at brackets zs → xs ≡ zs) →
    Spots text at brackets (spot_at f e k ∷ xs) → Spots text at brackets (spot_at f' e' k' ∷ ys) → ◌≡◌ {A = List Spot} (spot_at f e k ∷ xs) (spot_at f' e' k' ∷ ys)
same_step text at brackets f e None xs f' e' None ys behind h g = grind arith
same_step text at brackets f e None xs f' e' (Some kind') ys behind h g = absurd (let bad = h.0 in let token = g.0 in cc)
same_step text at brackets f e (Some kind) xs f' e' None ys behind h g = absurd (let token = h.0 in let bad = g.0 in cc)
same_step text at brackets f e (Some kind) xs f' e' (Some kind') ys behind h g = grind arith

-- a text has one list of tokens at most
pub same_spots : (text : List ℕ) (at brackets : ℕ) (xs ys : List Spot) → Spots text at brackets xs → Spots text at brackets ys → xs ≡ ys
same_spots text at brackets [] [] h g = refl
same_spots text at brackets [] (y ∷ ys) h g = absurd (not_end text at brackets y.from y.end y.kind ys h g)
same_spots text at brackets (x ∷ xs) [] h g = absurd (not_end text at brackets x.from x.end x.kind xs g h)
same_spots text at brackets (x ∷ xs) (y ∷ ys) h g =
    same_step text at brackets x.from x.end x.kind xs y.from y.end y.kind ys (λ at' brackets' zs. same_spots text at' brackets' xs zs) h g

-- each token lies within the text

abbrev pub AllInside : List ℕ → List Spot → Type 0
AllInside text spots = All (λ spot. (spot.from ≤ spot.end) × (spot.end ≤ length text)) spots

none_inside : (text : List ℕ) → AllInside text []
none_inside text k d l = absurd (omega arith)

inside_step : (text : List ℕ) (at brackets f e : ℕ) (k : Option TokenKind) (rest : List Spot) → at ≤ length text →
    ((at brackets : ℕ) → at ≤ length text → Spots text at brackets rest → AllInside text rest) →
    Spots text at brackets (spot_at f e k ∷ rest) → AllInside text (spot_at f e k ∷ rest)
inside_step text at brackets f e None rest l behind h = grind (arith, next_inside, none_inside)
inside_step text at brackets f e (Some kind) rest l behind h = grind (arith, next_inside)

pub spots_inside : (text : List ℕ) (at brackets : ℕ) (spots : List Spot) → at ≤ length text → Spots text at brackets spots → AllInside text spots
spots_inside text at brackets [] l h = none_inside text
spots_inside text at brackets (spot ∷ spots) l h =
    inside_step text at brackets spot.from spot.end spot.kind spots l (λ at' brackets'. spots_inside text at' brackets' spots) h
