-- Each command, and a line, is read by first tokens.
use Rattle.schema_lang.proofs.Imports.{◌≡◌, ℕ, false, List, codes, Some, refl, ap, arith, Option, is_some, Comma, Equals, OpenParen, Colon, Dot, EqualEqual, Slash, Token, Word, Signed, Text, Assignment, Value, is_same, is_sign, is_word, comparison_of, reduction_of, ExtentWord, Eq, BinOp, Command, KernelWord, ShowKind, Version, Grammar, first, Fine, Quiet, anyway, firsts_any, count, string, mapping, actors, assignment, body, bracket_list, command_line, filter, flag, inside_kernel, kernel_text, later, line, listed, new, part, show_end, update_end, window, apart, count_fine, exact_sign, exact_word, level_of, name_fine, fields_fine, fields_quiet, comparison_levels, expr_fine, expr_quiet, no_part, bracket_list_fine, bracket_list_quiet, cuts_fine, cuts_quiet, extent_word_fine, extent_word_quiet, fixed_fine, fixed_quiet, listed_fine, listed_quiet, mapping_fine, mapping_quiet, passes_fine, passes_quiet, path_fine, path_quiet, constant_fine, constant_quiet, terms_fine, terms_quiet, window_fine, window_quiet}
use Rattle.line_grammar.specs.declared.line.Command.TheVariants as command
use Rattle.line_grammar.specs.declared.line.KernelWord.TheVariants as kernel_word
use Rattle.line_grammar.specs.declared.line.ReduceKind.TheVariants as reduce

-- what is asked of a phrase and of the one behind it, and behind a token
joined_fine : {A X : Type 0} {Y Z : A → Type 0} → X → ((a : A) → Y a) → ((a : A) → Z a) → X × ((a : A) → Y a × Z a)
joined_fine one next quiet = (one, λ a. (next a, quiet a))

behind_fine : {X Y : Type 0} → X → Y → X × Y
behind_fine exact one = (exact, one)

string_fine : Fine is_same string
string_fine = (Text (codes "a"), codes "a", refl)

comparison_no_part : (t : Token) (v : BinOp) → comparison_of t ≡ Some v → first is_same part t ≡ false
comparison_no_part t v e = no_part t (let level = comparison_levels t (ap is_some e) in omega (arith, level))

inside_fine : (word : KernelWord) → Fine is_same (inside_kernel word)
unfolding inside_kernel part
inside_fine kernel_word.Axpy = search (exact_sign, path_fine, path_quiet, constant_fine, constant_quiet) depth 12
inside_fine kernel_word.CountWhere = joined_fine path_fine
    (λ x. joined_fine (Signed EqualEqual, Eq, refl) (λ op. joined_fine constant_fine (λ c. tt) (λ c. tt)) (λ op. search (anyway, firsts_any))) (λ x. (λ t v e. path_quiet t (comparison_no_part t v e), tt))
inside_fine _ = search (exact_sign, path_fine, path_quiet, constant_fine, constant_quiet) depth 12

inside_quiet : (word : KernelWord) (t : Token) → first is_same part t ≡ false → Quiet is_same (inside_kernel word) t
unfolding inside_kernel
inside_quiet kernel_word.Axpy t e = search (path_quiet, constant_quiet, anyway)
inside_quiet _ t e = search (path_quiet, constant_quiet, anyway)

kernel_fine : Fine is_same kernel_text
unfolding kernel_text part
kernel_fine = ((Word (codes "sum"), kernel_word.Sum, refl), search (exact_sign, inside_fine, inside_quiet) depth 12)

kernel_quiet : (t : Token) → Quiet is_same kernel_text t
unfolding kernel_text
kernel_quiet t = search

flag_fine : (word : List ℕ) → Fine is_same (flag word)
unfolding flag
flag_fine word = search exact_word

show_end_fine : (version : Version) (kind : ShowKind) (view : List ℕ) → Fine is_same (show_end version kind view)
unfolding show_end window
show_end_fine version kind view = search (window_fine, window_quiet) depth 12

update_end_fine : (version : Version) (view : List ℕ) (filter : Option Value) (sets : List Assignment) → Fine is_same (update_end version view filter sets)
unfolding update_end actors
update_end_fine version view filter sets = search (exact_word, count_fine, cuts_fine, cuts_quiet) depth 20

assignment_fine : Fine is_same assignment
unfolding assignment part
assignment_fine = search (exact_sign, path_fine, path_quiet, expr_fine, expr_quiet) depth 12

assignment_quiet : (t : Token) → level_of t ≡ 0 → Quiet is_same assignment t
unfolding assignment
assignment_quiet t e = search (expr_quiet)

filter_fine : Fine is_same filter
unfolding filter
filter_fine = search (exact_word, expr_fine) depth 12

filter_quiet : (t : Token) → level_of t ≡ 0 → is_word (codes "where") t ≡ false → Quiet is_same filter t
unfolding filter
filter_quiet t e e' = search (expr_quiet)

new_fine : (version : Version) (word : Grammar Token ExtentWord) → Fine is_same word → ((t : Token) → Quiet is_same word t) → Fine is_same (new version word)
unfolding new flag
new_fine version word w q = joined_fine name_fine (λ name. behind_fine (exact_sign Colon) (joined_fine name_fine (λ schema. joined_fine (bracket_list_fine word w q) (λ words. joined_fine (flag_fine (codes "wrap"))
    (λ wrap. search (exact_word, mapping_fine version) depth 12) (λ wrap. search)) (λ words. search (anyway, bracket_list_quiet) depth 12)) (λ schema. search (anyway, firsts_any)))) (λ name. search)

new_quiet : (version : Version) (word : Grammar Token ExtentWord) (t : Token) → is_sign OpenParen t ≡ false → Quiet is_same (new version word) t
unfolding new flag bracket_list
new_quiet version word t e = search (mapping_quiet version, anyway) depth 20

pub body_fine : (version : Version) (word : Command) → Fine is_same (body version word)
unfolding body update_end actors filter assignment part flag listed later
body_fine version command.Record = search (name_fine, fields_fine, fields_quiet, anyway, firsts_any) depth 30
body_fine version command.Mapping = search (exact_sign, name_fine, mapping_fine version, mapping_quiet version) depth 30
body_fine version command.View = search (fixed_fine, fixed_quiet, new_fine, new_quiet) depth 30
body_fine version command.Load = search (exact_word, string_fine, extent_word_fine, extent_word_quiet, new_fine, new_quiet) depth 30
body_fine version command.Set = joined_fine name_fine (λ view. joined_fine (bracket_list_fine count count_fine (λ t. tt))
    (λ index. search (exact_sign, path_fine, path_quiet, expr_fine, expr_quiet) depth 20) (λ index. bracket_list_quiet count (Signed Dot))) (λ view. search (anyway, firsts_any))
body_fine version command.Update = joined_fine name_fine (λ view. joined_fine filter_fine (λ filter. behind_fine (exact_word (codes "set"))
    (joined_fine (listed_fine assignment assignment_fine (assignment_quiet (Signed Comma) refl)) (update_end_fine version view filter)
    (λ sets. ((listed_quiet assignment (Word (codes "actors")) (assignment_quiet (Word (codes "actors")) refl) refl, tt), tt))))
    (λ filter. filter_quiet (Word (codes "set")) refl refl)) (λ view. search (anyway, firsts_any))
body_fine version command.Kernel = search (exact_word, name_fine, count_fine, kernel_fine, kernel_quiet, anyway, firsts_any) depth 30
body_fine version command.Reduce = joined_fine name_fine (λ view. let count_where = behind_fine (exact_word (codes "count")) (behind_fine (exact_word (codes "where")) (joined_fine expr_fine (λ value. tt) (λ value. tt))) in
    let reduced = joined_fine (Word (codes "sum"), reduce.Sum, refl) (λ kind. joined_fine path_fine (λ path. tt) (λ path. tt)) (λ kind. search (anyway, firsts_any)) in
    (count_where, reduced, refl, (apart (exact_word (codes "count")) reduction_of refl, tt))) (λ view. search (anyway, firsts_any))
body_fine version (command.Show kind) = search (name_fine, show_end_fine version kind, anyway, firsts_any) depth 30
body_fine version command.Relayout = search (exact_word, name_fine, mapping_fine version, mapping_quiet version) depth 30
body_fine version command.Advise = joined_fine name_fine (λ view. behind_fine (exact_word (codes "granule")) (joined_fine count_fine (λ granule. joined_fine passes_fine (λ passes. behind_fine (exact_word (codes "among"))
    (joined_fine (listed_fine (mapping version) (mapping_fine version) (mapping_quiet version (Signed Comma) refl)) (λ maps. joined_fine (flag_fine (codes "splits")) (λ splits. tt) (λ splits. tt))
    (λ maps. search (listed_quiet (mapping version), mapping_quiet version, anyway) depth 12))) (λ passes. passes_quiet (Word (codes "among")) refl)) (λ granule. search (anyway, firsts_any)))) (λ view. search)
body_fine version command.Stencil = joined_fine name_fine (λ view. joined_fine window_fine (λ window. behind_fine (exact_word (codes "set")) (joined_fine path_fine (λ path. behind_fine (exact_sign Equals)
    (joined_fine terms_fine (λ terms. search (exact_sign, exact_word, count_fine) depth 12) (λ terms. terms_quiet (Signed Slash)))) (λ path. path_quiet (Signed Equals) refl)))
    (λ window. window_quiet (Word (codes "set")))) (λ view. search (anyway, firsts_any))
body_fine version _ = search (exact_word, name_fine, count_fine, string_fine) depth 30

pub line_fine : (version : Version) → Fine is_same (line version)
unfolding line command_line
line_fine version = (((Word (codes "drop"), command.Drop, refl), λ word. (body_fine version word, firsts_any (body version word) (λ t. tt))), tt, refl, tt)
