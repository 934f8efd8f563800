-- The text of an advice, and what asks for it.
use Rattle.view_commands.proofs.Imports.{◌≡◌, ℕ, ◌+◌, ◌-◌, ◌<◌, ◌≤◌, List, [], ◌∷◌, ◌++◌, map, Bool, length, take, get_or, drop, flat_map, codes, Option, Some, option_map, refl, sym, ap, ◌∙◌, arith, append-nil, append_assoc, enumerate_from, take_all, length-drop, get_or-enumerate_from, length-enumerate_from, Advised, advice, Best, digits_text, flat_map_push, PassText, spaced, Token, Mapping, map_tokens, written, canonical, with_tokens_behind, term_of, Table, leaf_count_of, Read, all_accesses, Question, asked, advise, advise_fault, advice_text, best_words, cost_line, ok_or, Entry, GivesUp, GivesUp-then, StepFault, Ok}
use Rattle.map_expr.specs.Terms.{Term}

-- tokens behind a text, each behind a space
pub behind_spaced : (text : List ℕ) (tokens : List Token) → with_tokens_behind text tokens ≡ text ++ spaced (map written tokens)
behind_spaced text [] = sym (append-nil text)
behind_spaced text (token ∷ tokens) = grind (arith, append_assoc, (behind_spaced (text ++ 32 ∷ (written token).bytes) tokens))

-- the tokens of a mapping stand behind the name that a line gives it
pub mapping_text : (term : Term) → canonical (Mapping (codes "m") term) ≡ with_tokens_behind (codes "mapping m =") (map_tokens term)
unfolding canonical
mapping_text term = sym (behind_spaced (codes "mapping m =") (map_tokens term))

-- they can stand behind another text
pub behind_other : (text : List ℕ) (term : Term) → text ++ drop 11 (with_tokens_behind (codes "mapping m =") (map_tokens term)) ≡ with_tokens_behind text (map_tokens term)
behind_other text term = grind (arith, behind_spaced)

pub long_line : (term : Term) → 11 ≤ length (with_tokens_behind (codes "mapping m =") (map_tokens term))
long_line term = rw (behind_spaced (codes "mapping m =") (map_tokens term)) (omega arith)

-- what stands from one byte on
pub rest_from : (at : ℕ) (line : List ℕ) → take (length line - at) (drop at line) ≡ drop at line
rest_from at line = grind (arith, length-drop, take_all)

-- the words of the best
pub best_goes : (best : Option Best) (one : Best) (line text : List ℕ) → best ≡ Some one → line ≡ with_tokens_behind (codes "mapping m =") (map_tokens (term_of one.expr)) →
    text ≡ (codes "best " ++ digits_text one.cost) ++ drop 11 line → text ≡ best_words (option_map (λ best. (best.cost, term_of best.expr)) best)
best_goes best one line text is begun whole = grind (arith, behind_other)

-- the text of a listed candidate behind those before it
pub costs_more : (text : List ℕ) (costs : List (Option ℕ)) (at : ℕ) (d : Option ℕ) → at < length costs →
    (text ++ flat_map cost_line (take at (enumerate_from 1 costs))) ++ cost_line (at + 1, get_or costs at d) ≡ text ++ flat_map cost_line (take (at + 1) (enumerate_from 1 costs))
costs_more text costs at d inside =
    let within : at < length (enumerate_from 1 costs) = rw length-enumerate_from inside in
    let number : 1 + at ≡ at + 1 = omega arith in
    let entry : (at + 1, get_or costs at d) ≡ get_or (enumerate_from 1 costs) at (0, d) =
    sym (get_or-enumerate_from 1 costs at (0, d) inside ∙ ap (λ (n : ℕ). (n, get_or costs at d)) number) in
    append_assoc text (flat_map cost_line (take at (enumerate_from 1 costs))) (cost_line (at + 1, get_or costs at d))
    ∙ ap (λ (e : ℕ × Option ℕ). text ++ (flat_map cost_line (take at (enumerate_from 1 costs)) ++ cost_line e)) entry
    ∙ ap (λ (lines : List ℕ). text ++ lines) (flat_map_push cost_line (enumerate_from 1 costs) at (0, d) within)

-- all listed candidates
pub costs_all : (text : List ℕ) (costs : List (Option ℕ)) (at : ℕ) → length costs ≤ at → text ++ flat_map cost_line (take at (enumerate_from 1 costs)) ≡ text ++ flat_map cost_line (enumerate_from 1 costs)
costs_all text costs at over = grind (arith, enumerate_from, length-enumerate_from, flat_map, take_all)

-- the parts of an advice one behind another
pub advice_parts : (told : Advised) → (((codes "candidate,cost\n" ++ flat_map cost_line (enumerate_from 1 told.costs)) ++ best_words told.best) ++ 10 ∷ []) ≡ advice_text told
unfolding advice_text
advice_parts told = refl

-- the advice that is told where this is asked
pub told_goes : (mappings : List (Entry Term)) (table : Table) (granule : ℕ) (texts : List PassText) (terms : List Term) (splits : Bool) (question : Question) (told : Advised) →
    asked mappings table granule texts terms ≡ Ok question → ok_or advise_fault (advice table granule question.passes question.terms splits) ≡ Ok told →
    advise mappings table granule texts terms splits ≡ Ok (record { log = all_accesses Read (leaf_count_of table) (length table.rows); text = advice_text told })
unfolding advise
told_goes mappings table granule texts terms splits question told is goes = rw is (rw goes refl)

-- and where a listed candidate is none
pub none_told : (mappings : List (Entry Term)) (table : Table) (granule : ℕ) (texts : List PassText) (terms : List Term) (splits : Bool) (question : Question) (fault : StepFault) →
    asked mappings table granule texts terms ≡ Ok question → GivesUp (ok_or advise_fault (advice table granule question.passes question.terms splits)) fault →
    GivesUp (advise mappings table granule texts terms splits) fault
unfolding advise
none_told mappings table granule texts terms splits question fault is gives = rw is (GivesUp-then _ _ fault gives)

-- where nothing is asked
pub none_asked : (mappings : List (Entry Term)) (table : Table) (granule : ℕ) (texts : List PassText) (terms : List Term) (splits : Bool) (fault : StepFault) →
    GivesUp (asked mappings table granule texts terms) fault → GivesUp (advise mappings table granule texts terms splits) fault
unfolding advise
none_asked mappings table granule texts terms splits fault gives = GivesUp-then _ _ fault gives
