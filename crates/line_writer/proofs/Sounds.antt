-- No phrase of the language has the bad token.
use Rattle.line_writer.proofs.Imports.{◌≡◌, ℕ, suc, List, refl, zero, Option, Some, None, false, Token, Bad, Value, Grammar, BinOp, Version, Command, KernelWord, map_word, actors, assignment, atom_within, body, bracketed_list, braced, braced_widths, bracketed, chain, choice, command_line, comparison, conjunction, constant, cuts_phrase, dim, dims, expr, expr_over, extent_word, field_width, field_widths, field_within, fields, filter_phrase, fixed, flag, form_or_name, inside_aos, inside_aosoa, inside_bits, inside_form, inside_kernel, inside_soa, kernel_text, later, later_passes, leaf, line, links, comma_list, mapping, mapping_within, negation, nested, new, part, parts, pass, passes, path, prefixed, product, show_end, signs, span, sum, term_phrase, terms_phrase, typed, unary, update_end, window_phrase, operator, MapTerm, MapWord}
use Rattle.line_grammar.specs.declared.line.Command.TheVariants as command
use Rattle.line_grammar.specs.declared.line.KernelWord.TheVariants as word
use Rattle.line_grammar.specs.declared.line.MapWord.TheVariants as form
use Rattle.line_writer.proofs.Gives.{HasNoBad, is_bad}

path_sound : HasNoBad path
unfolding path parts part
path_sound = search depth 12

constant_sound : HasNoBad constant
unfolding constant
constant_sound = search depth 12

braced_sound : (n : ℕ) → HasNoBad (braced (field_within n))
unfolding braced field_within nested typed dims dim comma_list later
braced_sound zero = search depth 20
braced_sound (suc n) = let inner = braced_sound n in search depth 20

fields_sound : HasNoBad fields
unfolding fields
fields_sound = braced_sound

inside_sound : (version : Version) (one : Grammar Token MapTerm) → HasNoBad one → (form : MapWord) → HasNoBad (inside_form version one form)
unfolding inside_form inside_aos inside_soa inside_aosoa inside_bits field_widths braced_widths field_width comma_list later
inside_sound version one s form.Aos = search depth 12
inside_sound version one s _ = search (path_sound) depth 20

form_or_name_sound : (version : Version) (one : Grammar Token MapTerm) → HasNoBad one → (word : List ℕ) (form : Option MapWord) → HasNoBad (form_or_name version one word form)
unfolding form_or_name
form_or_name_sound version one s word None = tt
form_or_name_sound version one s word (Some form) = search (inside_sound version one s) depth 12

within_sound : (version : Version) (n : ℕ) → HasNoBad (mapping_within version n)
unfolding mapping_within
within_sound version zero = search depth 12
within_sound version (suc n) = (refl, λ word. form_or_name_sound version (mapping_within version n) (within_sound version n) word (map_word word))

mapping_sound : (version : Version) → HasNoBad (mapping version)
unfolding mapping
mapping_sound version = within_sound version

chain_sound : (operator : Token → Option BinOp) (one : Grammar Token Value) → operator Bad ≡ None → HasNoBad one → HasNoBad (chain operator one)
unfolding chain links
chain_sound operator one none s = (s, λ left before. (none, λ op. (s, λ right. tt)))

prefixed_sound : (token : Token) (wrap : Value → Value) (one : Grammar Token Value) → is_bad token ≡ false → HasNoBad one → HasNoBad (prefixed token wrap one)
unfolding prefixed signs
prefixed_sound token wrap one good s = ((λ n. (good, tt)), λ n. (s, λ value. tt))

sum_sound : (one : Grammar Token Value) → HasNoBad one → HasNoBad (sum one)
unfolding sum product unary
sum_sound one s = chain_sound _ _ refl (chain_sound _ _ refl (prefixed_sound _ _ one refl s))

over_sound : (one : Grammar Token Value) → HasNoBad one → HasNoBad (expr_over one)
unfolding expr_over conjunction negation comparison
over_sound one s = let u = sum_sound one s in chain_sound _ _ refl (chain_sound _ _ refl (prefixed_sound _ _ (comparison one) refl (u, λ left. ((refl, λ op. (u, λ right. tt)), tt))))

atom_sound : (n : ℕ) → HasNoBad (atom_within n)
unfolding atom_within bracketed choice leaf
atom_sound zero = search (path_sound) depth 20
atom_sound (suc n) = let inner = over_sound (atom_within n) (atom_sound n) in search (path_sound) depth 20

expr_sound : HasNoBad expr
unfolding expr
expr_sound = λ n. over_sound (atom_within n) (atom_sound n)

kernel_sound : (kernel : KernelWord) → HasNoBad (inside_kernel kernel)
unfolding inside_kernel
kernel_sound word.Axpy = search (path_sound, constant_sound) depth 12
kernel_sound _ = search (path_sound, constant_sound) depth 12

window_sound : HasNoBad window_phrase
unfolding window_phrase bracketed_list comma_list later span
window_sound = search depth 20

terms_sound : HasNoBad terms_phrase
unfolding terms_phrase term_phrase bracketed_list comma_list later
terms_sound = search (path_sound, constant_sound) depth 20

body_sound : (version : Version) (c : Command) → HasNoBad (body version c)
unfolding body bracketed_list comma_list later passes later_passes pass kernel_text flag new update_end actors filter_phrase assignment show_end cuts_phrase extent_word fixed
body_sound version command.Record = search (fields_sound) depth 30
body_sound version command.Stencil = (refl, λ view. (window_sound, λ window. (refl, (path_sound, λ path. (refl, (terms_sound, λ terms. search depth 12))))))
body_sound version _ = search (path_sound, window_sound, mapping_sound, expr_sound, kernel_sound) depth 40

pub line_sound : (version : Version) → HasNoBad (line version)
unfolding line command_line
line_sound version = ((refl, body_sound version), tt)
