-- The runs of scripts that differ in their mapping expressions alone.
use Rattle.equal_runs.proofs.Imports.{◌≡◌, ℕ, Bool, false, List, [], ◌∷◌, Option, refl, sym, ap, subst, ◌∙◌, list_any, or_parts, File, MapTerm, Sentence, Version, World, Outcome, Left, step, Output, run_from, after, fails_at, prepend, with_term, AgreeButTerms, shows_layout, IsLine, AreLines, misses_mapping, ends_after, ends_by_layout, MakesWide, HoldsOf, StaysWide, DoesLines, EqualRuns, Fault, Unread, ◌+◌, arith}
use Rattle.equal_runs.proofs.Agreeing.{go, fault, first, second, EndAlike}
use Rattle.equal_runs.proofs.Entries.{none as no_entries}
use Rattle.equal_runs.proofs.Steps.{step_agree}
use Rattle.equal_runs.proofs.Tables.{AlikeWorlds, AlikeLefts}

-- after outcomes that agree, and of which none ends by a fault of how tables lie, runs go on alike; of the worlds that are left `P` and `Q` hold
after_alike : (m o : Bool) (M N : World → Type 0) (number : ℕ) (x y : Outcome Left) (ends others : World → Bool) (P Q : World → Type 0) (rest later : World → Output)
    → EndAlike m o (AlikeLefts M N) x y → ends_after m x ends ≡ false → ends_after o y others ≡ false → HoldsOf x P → HoldsOf y Q
    → ((a b : Left) → AlikeLefts M N a b → ends a.held ≡ false → others b.held ≡ false → P a.held → Q b.held → rest a.held ≡ later b.held) → after number x rest ≡ after number y later
after_alike m o M N number x y ends others P Q rest later (go a b alike) holds also p q next =
    ap (λ (text : List ℕ). prepend text (rest a.held)) (sym alike.text) ∙ ap (prepend b.text) (next a b alike holds also p q)
after_alike m o M N number x y ends others P Q rest later (fault (Fault f)) holds also p q next = refl
after_alike m o M N number x y ends others P Q rest later (fault (Unread name)) holds also p q next = refl
after_alike m o M N number x y ends others P Q rest later (first (Fault f) z is) holds also p q next = absurd (cc)
after_alike m o M N number x y ends others P Q rest later (first (Unread name) z is) holds also p q next = absurd (cc)
after_alike m o M N number x y ends others P Q rest later (second z (Fault f) is) holds also p q next = absurd (cc)
after_alike m o M N number x y ends others P Q rest later (second z (Unread name) is) holds also p q next = absurd (cc)

-- texts that are lines, and other texts that are the same lines but for their mapping expressions
data Pairs (version : Version) : List (List ℕ) → List Sentence → List (List ℕ) → List Sentence → Type 0 where
  none : Pairs version [] [] [] []
  more : (text other : List ℕ) (line : Sentence) (term : MapTerm) (texts : List (List ℕ)) (lines : List Sentence) (other_texts : List (List ℕ)) (others : List Sentence) → IsLine version text line
      → IsLine version other (with_term term line) → Pairs version texts lines other_texts others → Pairs version (text ∷ texts) (line ∷ lines) (other ∷ other_texts) (with_term term line ∷ others)

pairs_of : (version : Version) (texts other_texts : List (List ℕ)) (lines others : List Sentence) → AreLines version texts lines → AreLines version other_texts others → AgreeButTerms lines others → Pairs version texts lines other_texts others
pairs_of version [] [] [] [] are also agree = none
pairs_of version (text ∷ texts) (other ∷ other_texts) (line ∷ lines) (changed ∷ others) are also agree =
    subst (λ (s : Sentence). Pairs version (text ∷ texts) (line ∷ lines) (other ∷ other_texts) (s ∷ others)) (sym agree.0.1)
    (more text other line agree.0.0 texts lines other_texts others are.0 (subst (IsLine version other) agree.0.1 also.0) (pairs_of version texts other_texts lines others are.1 also.1 agree.1))
pairs_of version [] (other ∷ other_texts) [] (changed ∷ others) are also agree = absurd agree
pairs_of version (text ∷ texts) [] (line ∷ lines) [] are also agree = absurd agree
pairs_of version [] other_texts (line ∷ lines) others are also agree = absurd are
pairs_of version (text ∷ texts) other_texts [] others are also agree = absurd are
pairs_of version texts [] lines (changed ∷ others) are also agree = absurd also
pairs_of version texts (other ∷ other_texts) lines [] are also agree = absurd also

module _ (version : Version) (files : List File) (outcome : World → List ℕ → Bool → Outcome Left) (does : DoesLines version files outcome) (unread : Option ℕ) where
  runs_alike : (number : ℕ) (world other : World) → AlikeWorlds world other
      → (texts : List (List ℕ)) (lines : List Sentence) (other_texts : List (List ℕ)) (others : List Sentence) → Pairs version texts lines other_texts others
      → list_any shows_layout lines ≡ false → ends_by_layout files number world lines unread ≡ false → ends_by_layout files number other others unread ≡ false
      → StaysWide files number world lines unread → StaysWide files number other others unread → run_from outcome number world texts unread ≡ run_from outcome number other other_texts unread
  runs_alike number world other alike texts lines other_texts others none plain holds also stays stays_also = refl
  runs_alike number world other alike texts lines other_texts others (more text changed line term ts ls us os is is_also rest) plain holds also stays stays_also =
      let b = fails_at unread number in
      let parts : (shows_layout line ≡ false) × (list_any shows_layout ls ≡ false) = or_parts (shows_layout line) (list_any shows_layout ls) plain in
      ap (λ (x : Outcome Left). after number x (λ next. run_from outcome (number + 1) next ts unread)) (does world text line b is)
      ∙ after_alike (misses_mapping world line) (misses_mapping other (with_term term line)) (MakesWide line) (MakesWide (with_term term line)) number (step world line files b) (step other (with_term term line) files b)
      (λ next. ends_by_layout files (number + 1) next ls unread) (λ next. ends_by_layout files (number + 1) next os unread)
      (λ next. MakesWide line next × StaysWide files (number + 1) next ls unread) (λ next. MakesWide (with_term term line) next × StaysWide files (number + 1) next os unread)
      (λ next. run_from outcome (number + 1) next ts unread) (λ next. run_from outcome (number + 1) next us unread)
      (step_agree world other alike term files b line parts.0) holds also stays stays_also
      (λ a c same ends ends_also p q. runs_alike (number + 1) a.held c.held (same.worlds p.0 q.0) ts ls us os rest parts.1 ends ends_also p.1 q.1)
      ∙ sym (ap (λ (x : Outcome Left). after number x (λ next. run_from outcome (number + 1) next us unread)) (does other changed (with_term term line) b is_also))

pub equal : (version : Version) (files : List File) (outcome : World → List ℕ → Bool → Outcome Left) → DoesLines version files outcome → EqualRuns version files outcome
equal version files outcome does texts other_texts lines others unread are also differ = grind (arith, runs_alike, no_entries, pairs_of)
