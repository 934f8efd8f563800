-- A string at the front of a text.
use Rattle.std.specs.Prelude.{◌≡◌, ℕ, suc, ◌+◌, ◌≤◌, Bool, true, false, ◌&&◌, List, [], ◌∷◌, ◌++◌, length, take, drop, get_or, Some, None, ◌⊎◌, refl, nat_le, nat_eq}
use Rattle.record_dim.specs.Std.{inl, inr, sym, ◌∙◌, ap, append_assoc, add-one, arith, prefix_len, AllPass, cond_both, cases_lt, le-leb, leb-true, eqb-true, and_parts, get_or_at, get_or_past, length-take-le, take-append-drop, drop_more}
use Rattle.line_tokens.specs.Bytes.{is_quote, is_text_byte}
use Rattle.line_tokens.specs.Tokens.{IsString}
use Rattle.line_tokens.specs.Next.{string_at}
use Rattle.line_tokens.specs.declared.token.TokenKind.TheVariants.{Text}
use Rattle.line_tokens.specs.DecimalLaws.{AllPass-take_prefix_len}

-- a run of bytes that pass ends at the first that does not
pub prefix_len-run : (p : ℕ → Bool) (front : List ℕ) (c : ℕ) (after : List ℕ) → AllPass p front → p c ≡ false → prefix_len p (front ++ (c ∷ after)) ≡ length front
prefix_len-run p [] c after pass stop = rw stop
prefix_len-run p (x ∷ front) c after pass stop =
    let e = prefix_len-run p front c after (λ k d l. pass (suc k) d (omega arith)) stop in
    rw (pass 0 0 (omega arith), e) (omega arith)

pub prefix_len-all : (p : ℕ → Bool) (front : List ℕ) → AllPass p front → prefix_len p front ≡ length front
prefix_len-all p [] pass = refl
prefix_len-all p (x ∷ front) pass =
    let e = prefix_len-all p front (λ k d l. pass (suc k) d (omega arith)) in
    rw (pass 0 0 (omega arith), e) (omega arith)

-- a string is found by what stands between its quotes
string_read : (b : ℕ) (inside after : List ℕ) → AllPass is_text_byte inside → 1 ≤ length inside → length inside ≤ 200 →
    string_at (b ∷ (inside ++ (34 ∷ after))) ≡ Some (length inside + 2, Text)
string_read b inside after pass some few = grind (arith, prefix_len-run, le-leb, add-one, get_or_at)

pub string_found : (n : ℕ) (rest : List ℕ) → IsString n rest → string_at rest ≡ Some (n, Text)
string_found n rest h = grind (arith, append_assoc, string_read)

-- where a quote closes a run, a string stands
string_stands : (after : List ℕ) (n : ℕ) → n ≡ prefix_len is_text_byte after → 1 ≤ n → n ≤ 200 → get_or after n 0 ≡ 34 → IsString (n + 2) (34 ∷ after)
string_stands after n e some few quote = elim (cases_lt n (length after)) [
  | inr past ↦ absurd (let zero : get_or after n 0 ≡ 0 = get_or_past after n 0 past in omega arith)
  | inl l ↦
      let split : after ≡ take n after ++ (34 ∷ drop (n + 1) after) =
      sym (take-append-drop n after) ∙ ap (λ xs. take n after ++ xs) (drop_more after n 0 l ∙ ap (λ x. x ∷ drop (n + 1) after) quote) in
      let len : length (take n after) ≡ n = length-take-le n after (omega arith) in (
        take n after,
        (drop (n + 1) after, ap (λ xs. 34 ∷ xs) (split ∙ sym (append_assoc (take n after) (34 ∷ []) (drop (n + 1) after)))),
        rw e (AllPass-take_prefix_len is_text_byte after),
        omega arith,
        omega arith,
        omega arith,
      )
]

-- a quote begins a string or is none
pub string_or_none : (b : ℕ) (after : List ℕ) → is_quote b ≡ true → (string_at (b ∷ after) ≡ None) ⊎ ((n : ℕ) × IsString n (b ∷ after))
string_or_none b after h =
    let n = prefix_len is_text_byte after in
    let is : b ≡ 34 = eqb-true b 34 h in
    cond_both (nat_le 1 n && nat_le n 200 && nat_eq (get_or (b ∷ after) (n + 1) 0) 34) (Some (n + 2, Text)) None
    (λ o. (o ≡ None) ⊎ ((m : ℕ) × IsString m (b ∷ after)))
    (λ e.
    let closed = and_parts (nat_le 1 n && nat_le n 200) (nat_eq (get_or (b ∷ after) (n + 1) 0) 34) e in
    let sized = and_parts (nat_le 1 n) (nat_le n 200) closed.0 in
    let quote : get_or after n 0 ≡ 34 = rw add-one at (eqb-true (get_or (b ∷ after) (n + 1) 0) 34 closed.1) in
    inr (n + 2, rw is (string_stands after n refl (leb-true 1 n sized.0) (leb-true n 200 sized.1) quote)))
    (λ e. inl refl)
