-- Lines that say the header of a table.
use Rattle.saved_runs.proofs.Imports.{◌≡◌, ℕ, ◌+◌, ◌^◌, ◌<◌, ◌≤◌, Bool, true, false, not, List, [], ◌∷◌, ◌++◌, length, map, codes, nat_lt, Some, Result, Ok, Err, inl, refl, sym, ap, subst, append-nil, append_assoc, arith, lt-ltb, ltb-false, Grammar, Is, AreSpelled, spaced_tokens, OpenBracket, CloseBracket, Colon, Comma, Fields, Record, Fixed, MapTerm, Split, Byteswap, Bytesplit, Change, Counted, Heated, depth_of, checked, has_counter, counts_once, bad_number, answered, accepted, else_for, Cell, Token, Word, Sign, Two, name_of, count_of, command_of, Sentence, New, Define, View, name, count, fixed, later, listed, bracket_list, flag, new, mapping_phrase, body, command_line, line, count_token, written, IsSpelled, Each, fits_more, fits_flat, one_fits, word_spelled, fits_alone, decimal_spells, joined_reads, Header, is_wrap, view_line, HasLine, and_parts, or_parts, not-true, if◌then◌else◌}
use Rattle.map_expr.specs.declared.check.BadMapping.{BadMapping}
use Rattle.map_expr.specs.declared.check.BadMapping.TheVariants as bad
use Rattle.line_grammar.specs.declared.line.Command.TheVariants as command
use Rattle.saved_runs.proofs.Told.{Told, told_nothing, told_item, told_behind, told_joined, told_deep, told_end, told_step, told_first, told_second, told_inside}
use Rattle.saved_runs.proofs.Maps.{HasTokens, height, told_map}
use Rattle.saved_runs.proofs.Lines.{AreFields}

-- ---- a mapping that is accepted is low

abbrev one_if : Bool → ℕ
one_if true = 1
one_if false = 0

uncounted_low : (term : MapTerm) → has_counter term ≡ false → height term ≤ depth_of term
uncounted_low (Split path first rest) none =
    let parts = or_parts (has_counter first) (has_counter rest) none in
    omega (arith, uncounted_low first parts.0, uncounted_low rest parts.1)
uncounted_low (Byteswap inner) none = omega (arith, uncounted_low inner none)
uncounted_low (Bytesplit inner) none = omega (arith, uncounted_low inner none)
uncounted_low (Change from to inner) none = omega (arith, uncounted_low inner none)
uncounted_low (Counted inner) none = absurd (cc none)
uncounted_low (Heated granule inner) none = absurd (cc none)
uncounted_low other none = omega arith

-- with at most one counter of each kind, at the top
counted_low : (count heat : Bool) (term : MapTerm) → counts_once count heat term ≡ true → height term ≤ depth_of term + (one_if count + one_if heat)
counted_low count heat (Counted inner) once =
    let parts = and_parts count (counts_once false heat inner) once in
    let below = counted_low false heat inner parts.1 in
    let one : one_if count ≡ 1 = ap one_if parts.0 in
    omega (arith, below, one)
counted_low count heat (Heated granule inner) once =
    let parts = and_parts heat (counts_once count false inner) once in
    let below = counted_low count false inner parts.1 in
    let one : one_if heat ≡ 1 = ap one_if parts.0 in
    omega (arith, below, one)
counted_low count heat other once = omega (arith, uncounted_low other (not-true (has_counter other) once))

checked_low : (term : MapTerm) → checked term ≡ Ok tt → height term ≤ 10
checked_low term is = of_tests (nat_lt 8 (depth_of term)) (counts_once true true term) refl refl is
  where
    of_tests : (deep once : Bool) → nat_lt 8 (depth_of term) ≡ deep → counts_once true true term ≡ once
        → (if deep then Err bad.TooDeep else (if not once then Err bad.Counter else answered (bad_number term))) ≡ Ok tt → height term ≤ 10
    of_tests false true deep counts is = omega (arith, ltb-false 8 (depth_of term) deep, counted_low true true term counts)
    of_tests _ _ deep counts is = absurd (cc is)

earlier : (why : BadMapping) (holds : Bool) (answer : Result Unit BadMapping) → else_for why holds answer ≡ Ok tt → answer ≡ Ok tt
earlier why holds answer is = grind arith

pub accepted_low : (term : MapTerm) (fields : Fields) (cells : List Cell) → accepted term fields cells ≡ Ok tt → height term ≤ 10
accepted_low term fields cells is = grind (arith, checked_low, earlier)

-- ---- tokens of numbers, words and lists

told_count : (k n : ℕ) → n < 2 ^ 32 → Told k count n
told_count k n low = told_item k count_of (count_token n) n (rw (lt-ltb n (2 ^ 32) low) refl) (one_fits (count_token n) refl (decimal_spells n (omega (arith, low))))

-- more phrases behind those found
told_later : {A : Type 0} (one : Grammar Token A) (k : ℕ) (found rest : List A) → Each (Told k one) rest → Told k (later one found) (found ++ rest)
unfolding later
told_later one k found [] all = subst (Told k (later one found)) (sym (append-nil found)) (told_end k found)
told_later one k found (next ∷ rest) all = subst (Told k (later one found)) (append_assoc found (next ∷ []) rest)
    (told_step k (told_joined k (told_behind k (Sign Comma) (λ xs f. fits_flat k (Sign Comma) xs refl refl f) all.0) (told_nothing k (found ++ next ∷ []))) (told_later one k (found ++ next ∷ []) rest all.1))

told_list : {A : Type 0} (one : Grammar Token A) (k : ℕ) (first : A) (rest : List A) → Told k one first → Each (Told k one) rest → Told k (listed one) (first ∷ rest)
unfolding listed
told_list one k first rest is all = told_joined k is (told_later one k (first ∷ []) rest all)

told_fixed : (k n : ℕ) → n < 2 ^ 32 → Told k fixed (Fixed n)
unfolding fixed
told_fixed k n low = told_joined k (told_count k n low) (told_nothing k (Fixed n))

each_fixed : (k : ℕ) (extents : List ℕ) → Each (λ n. n < 2 ^ 32) extents → Each (Told k fixed) (map Fixed extents)
each_fixed k [] all = tt
each_fixed k (n ∷ extents) all = (told_fixed k n all.0, each_fixed k extents all.1)

told_extents : (k : ℕ) (extents : List ℕ) → 1 ≤ length extents → Each (λ n. n < 2 ^ 32) extents → Told (k + 1) (bracket_list fixed) (map Fixed extents)
unfolding bracket_list
told_extents k [] some all = absurd (omega (arith, some))
told_extents k (n ∷ extents) some all =
    told_inside k OpenBracket CloseBracket refl refl refl (told_list fixed k (Fixed n) (map Fixed extents) (told_fixed k n all.0) (each_fixed k extents all.1))

told_mode : (k : ℕ) (wrap : Bool) → Told k (flag (codes "wrap")) wrap
unfolding flag
told_mode k true = told_first k (told_behind k (Word (codes "wrap")) (λ xs f. fits_flat k (Word (codes "wrap")) xs refl (word_spelled (codes "wrap") refl refl (omega arith)) f) (told_nothing k true))
told_mode k false = told_second k (told_nothing k false)

-- ---- the lines

module _ (header : Header) (has : HasTokens header.mapping) (low : height header.mapping ≤ 10) (some : 1 ≤ length header.extents) (small : Each (λ n. n < 2 ^ 32) header.extents) where
  abbrev made : New
  made = record { name = codes "V"; schema = codes "R"; words = map Fixed header.extents; wrap = is_wrap header.mode; term = header.mapping }

  told_name : (text : List ℕ) → name_of (Word text) ≡ Some text → IsSpelled (Word text) → Told 12 name text
  told_name text is spelled = told_item 12 name_of (Word text) text is (one_fits (Word text) refl spelled)

  told_new : Told 12 (new Two fixed) made
  unfolding new mapping_phrase
  told_new =
      told_joined 12 (told_name (codes "V") refl (word_spelled (codes "V") refl refl (omega arith)))
      (told_behind 12 (Sign Colon) (λ xs f. fits_flat 12 (Sign Colon) xs refl refl f)
      (told_joined 12 (told_name (codes "R") refl (word_spelled (codes "R") refl refl (omega arith)))
      (told_joined 12 (told_extents 11 header.extents some small)
      (told_joined 12 (told_mode 12 (is_wrap header.mode))
      (told_behind 12 (Word (codes "as")) (λ xs f. fits_flat 12 (Word (codes "as")) xs refl (word_spelled (codes "as") refl refl (omega arith)) f)
      (told_joined 12 (told_deep 12 10 (told_map 10 header.mapping has low)) (told_nothing 12 made)))))))

  told_view : Told 12 (line Two) (view_line header)
  unfolding line command_line body
  told_view =
      told_first 12 (told_joined 12 (told_item 12 (command_of Two) (Word (codes "view")) command.View refl (one_fits (Word (codes "view")) refl (word_spelled (codes "view") refl refl (omega arith))))
      (told_joined 12 told_new (told_nothing 12 (View made))))

  pub view_has_line : HasLine (view_line header)
  view_has_line =
      let spelled = fits_alone told_view.tokens (fits_more 12 64 told_view.tokens (omega arith) told_view.fits) in
      (spaced_tokens (map written told_view.tokens), joined_reads Two told_view.tokens (view_line header) spelled told_view.is)

-- the record of fields that a line says, under any name
pub record_has_line : (fields : Fields) → AreFields fields → HasLine (Define (codes "R") (Record fields))
unfolding line command_line body
record_has_line fields are =
    let sentence : Sentence = Define (codes "R") (Record fields) in
    let named : List Token = Word (codes "R") ∷ are.tokens in
    let tokens : List Token = Word (codes "record") ∷ named in
    let spelled : AreSpelled 0 (map written tokens) =
    (word_spelled (codes "record") refl refl (omega arith), tt, (word_spelled (codes "R") refl refl (omega arith), tt, are.spelled)) in
    let said : Is (body Two command.Record) named sentence = record {
      first = codes "R";
      front = Word (codes "R") ∷ [];
      back = are.tokens;
      whole = refl;
      begins = (Word (codes "R"), refl, refl);
      ends = record { first = fields; front = are.tokens; back = []; whole = sym (append-nil are.tokens); begins = are.are; ends = (refl, refl) };
    } in
    let whole : Is (command_line Two) tokens sentence = record {
      first = command.Record;
      front = Word (codes "record") ∷ [];
      back = named;
      whole = refl;
      begins = (Word (codes "record"), refl, refl);
      ends = said;
    } in
    (spaced_tokens (map written tokens), joined_reads Two tokens sentence spelled (inl whole))
