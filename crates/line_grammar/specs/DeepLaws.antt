-- A phrase in which brackets nest to any depth is read with as much depth as there are tokens.
use Rattle.std.specs.Prelude.{◌≡◌, ℕ, suc, ◌≤◌, max, List, [], ◌∷◌, ◌++◌, length, Result, Ok, Err, refl}
use Rattle.record_dim.specs.Std.{sym, ap, ◌∙◌, length-append, arith, le-max_left, le-max_right}
use Rattle.line_grammar.specs.ParsesLaws.{Parses, head_of}
use Rattle.line_grammar.specs.WiderLaws.{Wider}
use Rattle.line_grammar.specs.AlikeLaws.{Alike}
use Rattle.line_grammar.specs.Phrases.{IsAny}

abbrev pub by_length : {T A : Type 0} → (ℕ → List T → Result (A × List T) ℕ) → List T → Result (A × List T) ℕ
by_length read_at tokens = read_at (length tokens) tokens

-- two ways to cut a list whose fronts are as long
cut_alike : {T : Type 0} (xs us ys vs : List T) → length xs ≡ length us → xs ++ ys ≡ us ++ vs → (xs ≡ us) × (ys ≡ vs)
cut_alike [] [] ys vs n e = (refl, e)
cut_alike [] (u ∷ us) ys vs n e = absurd (omega arith)
cut_alike (x ∷ xs) [] ys vs n e = absurd (omega arith)
cut_alike {T = T} (x ∷ xs) (u ∷ us) ys vs n e =
    let tail : xs ++ ys ≡ us ++ vs = cc in
    let head : x ≡ u = cc in
    let h = cut_alike xs us ys vs (omega arith) tail in
    (ap (λ (k : List T). x ∷ k) h.0 ∙ ap (λ (k : T). k ∷ us) head, h.1)

module _ {T A : Type 0} {IsAt : ℕ → List T → A → Type 0} {read_at : ℕ → List T → Result (A × List T) ℕ} {After : List T → Type 0}
    (parses : (n : ℕ) → Parses (IsAt n) (read_at n) After) (wider : (n m : ℕ) → n ≤ m → Wider (IsAt n) (IsAt m)) (alike : (n m : ℕ) → n ≤ m → Alike n (read_at n) (read_at m)) where
  -- reading at any depth that is enough
  enough : (tokens : List T) (n : ℕ) → length tokens ≤ n → by_length read_at tokens ≡ read_at n tokens
  enough tokens n le = alike (length tokens) n le tokens (omega arith)

  again_found : (tokens front rest : List T) (v : A) → tokens ≡ front ++ rest → by_length read_at tokens ≡ Ok (v, rest)
      → (other : List T) → head_of other ≡ head_of rest → by_length read_at (front ++ other) ≡ Ok (v, other)
  again_found tokens front rest v whole e other h =
      let k = max (length tokens) (length (front ++ other)) in
      let f = (parses k).sound tokens v rest (sym (enough tokens k (le-max_left (length tokens) (length (front ++ other)))) ∙ e) in
      let same = cut_alike front f.front rest rest (omega (arith, ap length (sym whole ∙ f.whole), length-append front rest, length-append f.front rest)) (sym whole ∙ f.whole) in
      enough (front ++ other) k (le-max_right (length tokens) (length (front ++ other))) ∙ ap (λ (us : List T). read_at k (us ++ other)) same.0 ∙ f.again other h

  again_stopped : (tokens front rest : List T) (left : ℕ) → tokens ≡ front ++ rest → length rest ≡ left → by_length read_at tokens ≡ Err left
      → (token : T) (behind other : List T) → rest ≡ token ∷ behind → by_length read_at (front ++ (token ∷ other)) ≡ Err (suc (length other))
  again_stopped tokens front rest left whole short e token behind other is =
      let k = max (length tokens) (length (front ++ (token ∷ other))) in
      let s = (parses k).stops tokens left (sym (enough tokens k (le-max_left (length tokens) (length (front ++ (token ∷ other))))) ∙ e) in
      let same = cut_alike front s.front rest s.rest
      (omega (arith, ap length (sym whole ∙ s.whole), short, s.length_left, length-append front rest, length-append s.front s.rest)) (sym whole ∙ s.whole) in
      enough (front ++ (token ∷ other)) k (le-max_right (length tokens) (length (front ++ (token ∷ other)))) ∙ ap (λ (us : List T). read_at k (us ++ (token ∷ other))) same.0
      ∙ s.blocked token behind other (sym same.1 ∙ is)

  pub deep_parses : Parses (IsAny IsAt) (by_length read_at) After
  deep_parses = record {
    sound = λ tokens v rest e. let f = (parses (length tokens)).sound tokens v rest e in grind (arith, again_found);
    full = λ xs v rest h after.
        let k = max (length (xs ++ rest)) h.0 in
        enough (xs ++ rest) k (le-max_left (length (xs ++ rest)) h.0) ∙ (parses k).full xs v rest (wider h.0 k (le-max_right (length (xs ++ rest)) h.0) xs v h.1) after;
    stops = λ tokens left e. let s = (parses (length tokens)).stops tokens left e in record {
      front = s.front;
      rest = s.rest;
      whole = s.whole;
      length_left = s.length_left;
      more = s.more;
      value = s.value;
      begins = (length tokens, s.begins);
      blocked = again_stopped tokens s.front s.rest left s.whole s.length_left e;
    };
    example = (parses 0).example;
    value = (parses 0).value;
    shown = (0, (parses 0).shown);
  }
