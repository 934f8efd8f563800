-- The first line of a script, and what stands behind it.
use Rattle.worlds.proofs.Imports.{◌≡◌, ℕ, ◌+◌, ◌-◌, ◌<◌, ⊎_elim, Bool, true, false, not, cond, List, [], ◌∷◌, length, take, drop, ap, ◌∙◌, sym, refl, arith, slice_split, onto_first, position_or_len, cases_Bool, take_rest, slice_split_first, slice_split-cons_no, slice_split-cons_yes, lines_in, ended_lines, without_cr, is_line_end}

-- a text in which no byte passes is one part
pub split_none : (p : ℕ → Bool) (xs : List ℕ) → position_or_len p xs ≡ length xs → slice_split p xs ≡ xs ∷ []
split_none p [] h = refl
split_none p (x ∷ xs) h = ⊎_elim (λ (e : p x ≡ true). absurd (omega (arith, ap (λ b. cond (not b) (1 + position_or_len p xs) 0) e))) (λ (e : p x ≡ false).
    let rest : position_or_len p xs ≡ length xs = omega (arith, ap (λ b. cond (not b) (1 + position_or_len p xs) 0) e) in
    slice_split-cons_no p x xs e ∙ ap (onto_first x) (split_none p xs rest)) (cases_Bool (p x))

-- the first part ends at the first byte that passes
pub split_first : (p : ℕ → Bool) (xs : List ℕ) (n : ℕ) → n ≡ position_or_len p xs → n < length xs → slice_split p xs ≡ take n xs ∷ slice_split p (take (length xs - (n + 1)) (drop (n + 1) xs))
split_first p xs n is small = rw (is, take_rest) (slice_split_first p xs 0 (rw is at small))

onto_some : (x : ℕ) (parts : List (List ℕ)) → onto_first x parts ≡ [] → ⊥
onto_some x parts e = grind arith

-- there is a first part
split_some : (xs : List ℕ) → slice_split is_line_end xs ≡ [] → ⊥
split_some [] e = absurd (cc)
split_some (x ∷ xs) e = ⊎_elim (λ (h : is_line_end x ≡ true). absurd (cc (sym (slice_split-cons_yes is_line_end x xs h) ∙ e))) (λ (h : is_line_end x ≡ false). onto_some x (slice_split is_line_end xs) (sym (slice_split-cons_no is_line_end x xs h) ∙ e)) (cases_Bool (is_line_end x))

ended_more : (front : List ℕ) (part : List ℕ) (parts : List (List ℕ)) → ended_lines (front ∷ part ∷ parts) ≡ front ∷ ended_lines (part ∷ parts)
ended_more front part parts = grind arith

ended_some : (front : List ℕ) (parts : List (List ℕ)) → (parts ≡ [] → ⊥) → ended_lines (front ∷ parts) ≡ front ∷ ended_lines parts
ended_some front parts some = grind (arith, ended_more)

-- a line that an LF ends
pub ended_first : (front : List ℕ) (rest : List ℕ) → ended_lines (front ∷ slice_split is_line_end rest) ≡ front ∷ ended_lines (slice_split is_line_end rest)
ended_first front rest = ended_some front (slice_split is_line_end rest) (split_some rest)

pub line_first : (bytes : List ℕ) (n : ℕ) → n ≡ position_or_len is_line_end bytes → n < length bytes → lines_in bytes ≡ without_cr (take n bytes) ∷ lines_in (take (length bytes - (n + 1)) (drop (n + 1) bytes))
line_first bytes n is small = grind (arith, split_first, ended_first)

-- a last line that no LF ends
pub line_last : (bytes : List ℕ) → position_or_len is_line_end bytes ≡ length bytes → (length bytes ≡ 0 → ⊥) → lines_in bytes ≡ without_cr bytes ∷ []
line_last bytes none some = grind (arith, split_none)

-- behind the end stands nothing
pub nothing_left : (bytes : List ℕ) (n : ℕ) → n ≡ length bytes → take (length bytes - n) (drop n bytes) ≡ []
nothing_left bytes n is = grind arith
