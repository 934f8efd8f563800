-- How the reading of a list goes on: of phrases one after another, and of phrases behind a token.
use Rattle.std.specs.Prelude.{◌≡◌, ℕ, Bool, true, false, List, [], ◌∷◌, ◌++◌, Ok, Err, refl}
use Rattle.record_dim.specs.Std.{ap, ◌∙◌}
use Rattle.line_grammar.specs.Grammar.{Grammar, behind, repeats, more}
use Rattle.line_grammar.specs.Reading.{◌>>=◌, first, at, give_at, starts, past}
use Rattle.line_grammar.specs.FineLaws.{may_be_empty}
use Rattle.line_grammar.specs.RepeatedLaws.{Shrinks, steps_end, steps_stepped, steps_stop}
use Rattle.line_grammar.specs.TakesLaws.{takes}

-- how reading goes on behind one phrase more, where such a phrase stops, and where none begins
module _ {T A : Type 0} (same : T → T → Bool) (one : Grammar T A) (s : may_be_empty one ≡ false) where
  shrinks : Shrinks (λ found. at same (more one found))
  shrinks found = takes same (more one found) s

  pub list_stepped : (found : List A) (tokens : List T) (next : A) (rest : List T) → starts (first same one) tokens ≡ true → at same one tokens ≡ Ok (next, rest)
      → at same (repeats (more one) found) tokens ≡ at same (repeats (more one) (found ++ next ∷ [])) rest
  list_stepped found tokens next rest passes is = steps_stepped (first same one) (λ f. at same (more one f)) shrinks found tokens (found ++ next ∷ []) rest passes
      (ap (λ r. r >>= λ x. give_at (found ++ x.0 ∷ []) x.1) is)

  pub list_stop : (found : List A) (tokens : List T) (left : ℕ) → starts (first same one) tokens ≡ true → at same one tokens ≡ Err left → at same (repeats (more one) found) tokens ≡ Err left
  list_stop found tokens left passes is = steps_stop (first same one) (λ f. at same (more one f)) shrinks found tokens left passes (ap (λ r. r >>= λ x. give_at (found ++ x.0 ∷ []) x.1) is)

  pub list_end : (found : List A) (tokens : List T) → starts (first same one) tokens ≡ false → at same (repeats (more one) found) tokens ≡ Ok (found, tokens)
  list_end = steps_end (first same one) (λ f. at same (more one f))

-- the same of phrases behind a token, as a comma
module _ {T A : Type 0} (same : T → T → Bool) (token : T) (one : Grammar T A) where
  pub behind_list_stepped : (found : List A) (tokens us : List T) (next : A) (rest : List T) → starts (same token) tokens ≡ true → past (same token) tokens ≡ Ok us → at same one us ≡ Ok (next, rest)
      → at same (repeats (more (behind token one)) found) tokens ≡ at same (repeats (more (behind token one)) (found ++ next ∷ [])) rest
  behind_list_stepped found tokens us next rest passes is then = list_stepped same (behind token one) refl found tokens next rest passes (ap (λ r. r >>= at same one) is ∙ then)

  pub behind_list_stop : (found : List A) (tokens us : List T) (left : ℕ) → starts (same token) tokens ≡ true → past (same token) tokens ≡ Ok us → at same one us ≡ Err left
      → at same (repeats (more (behind token one)) found) tokens ≡ Err left
  behind_list_stop found tokens us left passes is then = list_stop same (behind token one) refl found tokens left passes (ap (λ r. r >>= at same one) is ∙ then)

  pub behind_list_bare : (found : List A) (tokens : List T) (left : ℕ) → starts (same token) tokens ≡ true → past (same token) tokens ≡ Err left
      → at same (repeats (more (behind token one)) found) tokens ≡ Err left
  behind_list_bare found tokens left passes is = list_stop same (behind token one) refl found tokens left passes (ap (λ r. r >>= at same one) is)

  pub behind_list_end : (found : List A) (tokens : List T) → starts (same token) tokens ≡ false → at same (repeats (more (behind token one)) found) tokens ≡ Ok (found, tokens)
  behind_list_end = list_end same (behind token one) refl
