-- The line that a function of the text tells is the grammar's answer.
use Rattle.schema_lang.proofs.Imports.{◌≡◌, ℕ, List, Ok, Err, refl, sym, ap, ◌∙◌, arith, ◌≤◌, Result, ◌-◌, length, zero, suc, ◌+◌, ◌<◌, MatchResult, Sentence, Version, Spot, Spots, brackets_after, same_spots, Reads, StopsAt, tokens_of, next_of, Next, End, Bad, next_inside, line_or_column, spots_in, spots_within, spots_behind, line_at, line_of, read, later}
use Rattle.line_tokens.specs.declared.token.Next.TheVariants.{Token}
use Rattle.line_grammar.specs.declared.token.Token as token
use Rattle.schema_lang.proofs.LineLaws.{found_line, stopped_line}

-- one spot more
spot_first : (room : ℕ) (text : List ℕ) (at brackets : ℕ) (next : Next) → at ≤ length text → next_of text at brackets ≡ next → ((end opened : ℕ) → at < end → end ≤ length text → Spots text end opened (spots_within room text end opened)) → Spots text at brackets (spots_behind next (spots_within room text) brackets)
spot_first room text at brackets End inside is more = is
spot_first room text at brackets (Bad from) inside is more = (is, refl, refl)
spot_first room text at brackets (Token from end kind) inside is more =
    let there = next_inside text at brackets inside in
    let fits = rw is at there in
    (is, more end (brackets_after kind brackets) (omega (arith, fits.0, fits.1)) fits.2)

-- the spots of a text are its spots
within : (room : ℕ) (text : List ℕ) (at brackets : ℕ) → at ≤ length text → length text - at < room → Spots text at brackets (spots_within room text at brackets)
within zero text at brackets inside room = absurd (omega (arith, room))
within (suc room) text at brackets inside small =
    spot_first room text at brackets (next_of text at brackets) inside refl (λ end opened later low. within room text end opened low (omega (arith, later, small, inside)))

pub spots_are : (text : List ℕ) → Spots text 0 0 (spots_in text)
spots_are text = within (length text + 1) text 0 0 (omega arith) (omega arith)

-- what reading the tokens gives is what is told
pub told_by : (version : Version) (text : List ℕ) (spots : List Spot) (tokens : List token.Token) (read : Result (Sentence × List token.Token) ℕ) → Spots text 0 0 spots → tokens ≡ tokens_of text spots → line_at version tokens ≡ read → line_of version text ≡ line_or_column spots read
unfolding line_of
told_by version text spots tokens read all are is =
    let same : spots_in text ≡ spots = same_spots text 0 0 (spots_in text) spots (spots_are text) all in
    let these : tokens_of text (spots_in text) ≡ tokens = ap (tokens_of text) same ∙ sym are in
    ap (λ s. line_or_column s (line_at version (tokens_of text (spots_in text)))) same ∙ ap (λ (t : List token.Token). line_or_column spots (line_at version t)) these ∙ ap (line_or_column spots) is

-- a text whose line is told is this line, and one whose column is told stops there
pub line_law : (version : Version) (text : List ℕ) → MatchResult (line_of version text) (Reads version text) (StopsAt version text)
line_law version text = by (line_at version (tokens_of text (spots_in text))) refl where
  by : (read : Result (Sentence × List token.Token) ℕ) → line_at version (tokens_of text (spots_in text)) ≡ read → MatchResult (line_of version text) (Reads version text) (StopsAt version text)
  by (Ok x) is = rw (told_by version text (spots_in text) (tokens_of text (spots_in text)) (Ok x) (spots_are text) refl is) (found_line version text (spots_in text) (tokens_of text (spots_in text)) x.0 (spots_are text) refl is)
  by (Err left) is = rw (told_by version text (spots_in text) (tokens_of text (spots_in text)) (Err left) (spots_are text) refl is) (stopped_line version text (spots_in text) (tokens_of text (spots_in text)) left (spots_are text) refl is)
