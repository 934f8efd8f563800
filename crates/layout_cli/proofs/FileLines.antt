-- Which of the generated lines read a file, and which.
use Rattle.layout_cli.proofs.Imports.{◌≡◌, ℕ, suc, ◌+◌, Bool, false, List, [], ◌∷◌, ◌++◌, drop, length, Some, None, Result, Ok, Err, codes, nat_eq, refl, sym, ap, subst, ◌∙◌, arith, ◌||◌, if◌then◌else◌, IfSome, AllByRecursion, list_any, or_parts, nat_tests, is_hash, token_at, placed, tokens_of, New, Sentence, Load, Blank, bracket_list, listed, later, extent_word, fixed, mapping, mapping_within, form_or_name, inside_form, inside_aos, steps_at, Aos, Count, Rows, Row, Packed, line_at, line, command_line, body, new, flag, One, line_of, line_or_column, spots_in, spots_within, spots_behind, generated_lines, generated_files, file_named, Spot, Token, digits_text, file_in}
use Rattle.line_tokens.specs.declared.token.Next.TheVariants.{End}
use Rattle.layout_cli.proofs.NoFile.{reads_file, line_none}

abbrev sentence_in : Result Sentence ℕ → Sentence
sentence_in (Ok sentence) = sentence
sentence_in (Err column) = Blank

-- where the line reads a file, it is the dataset
abbrev pub ReadsDataset : List ℕ → List ℕ → Type 0
ReadsDataset dataset text = (sentence : Sentence) → line_of One text ≡ Ok sentence → IfSome (file_in sentence) (λ file. file_named (generated_files dataset) file ≡ Some dataset)

-- the load
abbrev gen_new : New
gen_new = record { name = codes "A"; schema = codes "P"; words = Rows ∷ []; wrap = false; term = Count (Aos Packed Row) }

load_line : line_of One (codes "load A : P [?] as count(aos(packed, row)) from \"gen.csv\"") ≡ Ok (Load gen_new (codes "gen.csv"))
unfolding line_of line_at line command_line body new flag bracket_list listed later steps_at extent_word fixed mapping mapping_within form_or_name inside_form inside_aos
load_line = refl

load_reads : (dataset : List ℕ) → ReadsDataset dataset (codes "load A : P [?] as count(aos(packed, row)) from \"gen.csv\"")
load_reads dataset sentence is =
    let there : file_named (generated_files dataset) (codes "gen.csv") ≡ Some dataset = refl in
    subst (λ (s : Sentence). IfSome (file_in s) (λ file. file_named (generated_files dataset) file ≡ Some dataset)) (ap sentence_in (sym load_line ∙ is)) there

-- a line that begins otherwise
told_none : (spots : List Spot) (read : Result (Sentence × List Token) ℕ) (sentence : Sentence) → ((found : Sentence) (rest : List Token) → read ≡ Ok (found, rest) → file_in found ≡ None)
    → line_or_column spots read ≡ Ok sentence → file_in sentence ≡ None
told_none spots (Ok x) sentence none is = subst (λ (s : Sentence). file_in s ≡ None) (ap sentence_in is) (none x.0 x.1 refl)
told_none spots (Err _) sentence none is = absurd (cc)

no_file : (dataset text : List ℕ) → reads_file One (tokens_of text (spots_in text)) ≡ false → ReadsDataset dataset text
unfolding line_of
no_file dataset text other sentence is =
    let tokens = tokens_of text (spots_in text) in
    let none : file_in sentence ≡ None = told_none (spots_in text) (line_at One tokens) sentence (λ found rest e. line_none One tokens found rest other e) is in
    rw none tt

-- a line that begins with `view`
view_first : (dataset rest : List ℕ) → ReadsDataset dataset (codes "view " ++ rest)
view_first dataset rest =
    let text = codes "view " ++ rest in
    let room : length text + 1 ≡ suc (length text) = omega arith in
    let some : nat_eq (length text) 0 ≡ false = grind (arith, nat_tests) in
    no_file dataset text
    (ap (λ r. reads_file One (tokens_of text (spots_within r text 0 0))) room
    ∙ ap (λ (none : Bool). reads_file One (tokens_of text (spots_behind (if none || is_hash 118 then End else placed 0 (token_at text 0)) (spots_within (length text) text) 0))) some)

-- lines that all begin otherwise
none_read : (dataset : List ℕ) (lines : List (List ℕ)) → list_any (λ text. reads_file One (tokens_of text (spots_in text))) lines ≡ false → AllByRecursion (ReadsDataset dataset) lines
none_read dataset [] none = tt
none_read dataset (text ∷ lines) none =
    let parts = or_parts (reads_file One (tokens_of text (spots_in text))) (list_any (λ text. reads_file One (tokens_of text (spots_in text))) lines) none in
    (no_file dataset text parts.0, none_read dataset lines parts.1)

pub lines_read : (dataset : List ℕ) (n : ℕ) → AllByRecursion (ReadsDataset dataset) (generated_lines n)
lines_read dataset n = (
  no_file dataset _ refl,
  (
    load_reads dataset,
    (
      view_first dataset (codes "B : P [" ++ digits_text n ++ codes "] as soa(multi, row)"),
      (
        view_first dataset (codes "C : P [" ++ digits_text n ++ codes "] as aosoa(8, row)"),
        (
          view_first dataset (codes "D : P [" ++ digits_text n ++ codes "] as bitaos(40, row)"),
          (
            view_first dataset (codes "E : P [" ++ digits_text n ++ codes "] as split(pos, byteswap(soa(single, col)), bitsoa(34, row))"),
            (
              view_first dataset (codes "F : P [" ++ digits_text n ++ codes "] as bytesplit(aos(aligned, morton))"),
              none_read dataset (drop 7 (generated_lines n)) refl,
            ),
          ),
        ),
      ),
    ),
  ),
)
