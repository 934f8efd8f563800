-- A text is one line at most, and reading its tokens tells which, or where they stop.
use Rattle.schema_lang.proofs.Imports.{◌≡◌, ℕ, List, [], ◌∷◌, Some, None, Ok, Err, refl, sym, ap, ◌∙◌, Option, is_some, ◌-◌, length, if◌then◌else◌, Token, Sentence, Blank, is_same, command_of, Command, Version, Spot, Spots, same_spots, Reads, StopsAt, column_behind, tokens_of, ended_at, ended, line_at, ◌>>=◌, item_or, ok_parts, line_found, line_full, line_stop, IsSentence, read, body, command_line, line}
use Rattle.schema_lang.proofs.CommandLaws.{line_fine}

-- where a token is left, a line is read as a command is
pub line_begun : (version : Version) (token : Token) (rest : List Token) → line_at version (token ∷ rest) ≡ ended_at (read (command_line version)) (token ∷ rest)
unfolding line_at line command_line
line_begun version token rest = of (command_of version token)
  where
    of : (c : Option Command) → ((if is_some c then (item_or c (length (token ∷ rest)) rest >>= λ x. read (body version x.0) x.1) else Ok (Blank, token ∷ rest)) >>= λ x. ended x.0 x.1)
        ≡ ((item_or c (length (token ∷ rest)) rest >>= λ x. read (body version x.0) x.1) >>= λ x. ended x.0 x.1)
    of None = refl
    of (Some word) = refl

pub found_line : (version : Version) (text : List ℕ) (spots : List Spot) (tokens : List Token) (sentence : Sentence) {rest : List Token} → Spots text 0 0 spots → tokens ≡ tokens_of text spots → line_at version tokens ≡ Ok (sentence, rest) → Reads version text sentence
unfolding line_at
found_line version text spots tokens sentence h same e = record { spots = spots; tokens = h; line = rw (← same) (line_found is_same (line version) (line_fine version) tokens sentence e) }

pub stopped_line : (version : Version) (text : List ℕ) (spots : List Spot) (tokens : List Token) (left : ℕ) → Spots text 0 0 spots → tokens ≡ tokens_of text spots → line_at version tokens ≡ Err left → StopsAt version text (column_behind (length spots - left) spots)
unfolding line_at
stopped_line version text spots tokens left h same e = record { spots = spots; tokens = h; left = left; stop = rw (← same) (line_stop is_same (line version) (line_fine version) tokens left e); place = refl }

sentence_along : (version : Version) (tokens others : List Token) (sentence : Sentence) → tokens ≡ others → IsSentence version others sentence → IsSentence version tokens sentence
sentence_along version tokens others sentence e h = rw e h

pub full_line : (version : Version) (text : List ℕ) (spots : List Spot) (tokens : List Token) (sentence : Sentence) → Spots text 0 0 spots → tokens ≡ tokens_of text spots → Reads version text sentence → line_at version tokens ≡ Ok (sentence, [])
unfolding line_at
full_line version text spots tokens sentence h same r =
    let alike : spots ≡ r.spots = same_spots text 0 0 spots r.spots h r.tokens in
    line_full is_same (line version) (line_fine version) tokens sentence (sentence_along version tokens (tokens_of text r.spots) sentence (same ∙ ap (tokens_of text) alike) r.line)

pub one_line : (version : Version) (text : List ℕ) (a b : Sentence) → Reads version text a → Reads version text b → a ≡ b
one_line version text a b r s = (ok_parts (sym (full_line version text r.spots (tokens_of text r.spots) a r.tokens refl r) ∙ full_line version text r.spots (tokens_of text r.spots) b r.tokens refl s)).0
