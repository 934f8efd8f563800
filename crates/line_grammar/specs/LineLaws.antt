-- Reading all tokens as one phrase of a grammar: it gives each phrase, and stops at the first token with which the tokens begin none.
use Rattle.std.specs.Prelude.{◌≡◌, ℕ, Bool, List, [], ◌∷◌, ◌++◌, Result, Ok, Err, refl}
use Rattle.record_dim.specs.Std.{sym, ap, ◌∙◌, append_assoc, append-nil}
use Rattle.line_grammar.specs.Column.{Bars, IsStop}
use Rattle.line_grammar.specs.Grammar.{Grammar, Is}
use Rattle.line_grammar.specs.Reading.{◌>>=◌, at}
use Rattle.line_grammar.specs.Ended.{ended, ended_at}
use Rattle.line_grammar.specs.ParsesLaws.{head_of, ok_parts}
use Rattle.line_grammar.specs.FineLaws.{Fine, parses}

module _ {T A : Type 0} (same : T → T → Bool) (one : Grammar T A) (f : Fine same one) where
  pub line_full : (tokens : List T) (v : A) → Is one tokens v → ended_at (at same one) tokens ≡ Ok (v, [])
  line_full tokens v h = ap (λ r. r >>= λ x. ended x.0 x.1) (ap (at same one) (sym (append-nil tokens)) ∙ (parses same one f).full tokens v [] h tt)

  found_in : (tokens : List T) (r : Result (A × List T) ℕ) → at same one tokens ≡ r → (v : A) (rest : List T) → (r >>= λ x. ended x.0 x.1) ≡ Ok (v, rest) → Is one tokens v
  found_in tokens (Ok (w, [])) is v rest e = let found = (parses same one f).sound tokens w [] is in rw (← (ok_parts e).0, found.whole, append-nil) found.phrase
  found_in tokens (Ok (w, token ∷ us)) is v rest e = absurd cc
  found_in tokens (Err n) is v rest e = absurd cc

  pub line_found : (tokens : List T) (v : A) {rest : List T} → ended_at (at same one) tokens ≡ Ok (v, rest) → Is one tokens v
  line_found tokens v {rest} e = found_in tokens (at same one tokens) refl v rest e

  -- where reading stops, whatever follows the next token, the tokens begin no phrase with it
  barred : (front rest : List T) → ((token : T) (behind other : List T) → rest ≡ token ∷ behind → (n : ℕ) × (ended_at (at same one) (front ++ (token ∷ other)) ≡ Err n)) → Bars (Is one) front rest
  barred front [] blocked = tt
  barred front (token ∷ behind) blocked = λ b.
      let goes = ap (ended_at (at same one)) (sym (append_assoc front (token ∷ []) b.0)) ∙ line_full ((front ++ token ∷ []) ++ b.0) b.1 b.2 in
      let bad = sym (blocked token behind b.0 refl).1 ∙ goes in cc

  stop_in : (tokens : List T) (r : Result (A × List T) ℕ) → at same one tokens ≡ r → (left : ℕ)
      → (r >>= λ x. ended x.0 x.1) ≡ Err left → ended_at (at same one) tokens ≡ Err left → IsStop (Is one) tokens left
  stop_in tokens (Ok (w, [])) is left e whole = absurd cc
  stop_in tokens (Ok (w, token ∷ us)) is left e whole = let found = (parses same one f).sound tokens w (token ∷ us) is in record {
    front = found.front;
    rest = token ∷ us;
    whole = found.whole;
    length_left = cc;
    begins = ([], w, rw append-nil found.phrase);
    bars = barred found.front (token ∷ us) (λ next behind other same. (_, ap (λ r. r >>= λ x. ended x.0 x.1) (found.again (next ∷ other) (sym (ap head_of same)))));
    none = λ v h. let bad = sym (line_full tokens v h) ∙ whole in cc;
  }
  stop_in tokens (Err n) is left e whole = let stop = (parses same one f).stops tokens left (is ∙ e) in record {
    front = stop.front;
    rest = stop.rest;
    whole = stop.whole;
    length_left = stop.length_left;
    begins = (stop.more, stop.value, stop.begins);
    bars = barred stop.front stop.rest (λ next behind other same. (_, ap (λ r. r >>= λ x. ended x.0 x.1) (stop.blocked next behind other same)));
    none = λ v h. let bad = sym (line_full tokens v h) ∙ whole in cc;
  }

  pub line_stop : (tokens : List T) (left : ℕ) → ended_at (at same one) tokens ≡ Err left → IsStop (Is one) tokens left
  line_stop tokens left e = stop_in tokens (at same one tokens) refl left e e
