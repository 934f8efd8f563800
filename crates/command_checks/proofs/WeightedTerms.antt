-- Weighted terms, one after another.
use Rattle.command_checks.proofs.Imports.{◌≡◌, ℕ, ◌+◌, ◌<◌, ◌≤◌, Bool, true, false, not, pos, List, [], ◌∷◌, ◌++◌, length, map, take, get_or, refl, sym, ap, subst, ◌∙◌, arith, All, ◌&&◌, nat_lt, int_le, and_parts, nat_tests, ints, take_more, map-append, TermText, Fields, IsTermOf, Weighted, weighted, is_divisor, is_weight, reaches, WindowOf, Term, leaf_of, ◌>>=◌, refused_if, all_reach, all_weigh, weighted_term, fit_terms, Reach, Weight, Terms, Rounds, BadStencil, GivesUp, GivesUp-then, placed_term, weighted_at, StepFault, Ok, length-take-le, All-nil, All-cons, All-head, All-tail, ◌^◌}

-- ---- the leaves of terms

-- a term whose leaf is known, and one whose path names none
pub term_goes : (fields : Fields) (text : TermText) (leaf : ℕ) → leaf_of fields text.path ≡ Ok leaf → weighted_term fields text ≡ Ok (placed_term text leaf)
term_goes fields text leaf is = rw is refl

pub term_ends : (fields : Fields) (text : TermText) (fault : StepFault) → GivesUp (leaf_of fields text.path) fault → GivesUp (weighted_term fields text) fault
term_ends fields text fault gives = GivesUp-then (leaf_of fields text.path) (λ leaf. Ok (placed_term text leaf)) fault gives

-- one term more
weighted_push : (texts : List TermText) (leaves : List ℕ) (text : TermText) (leaf : ℕ) → length leaves ≡ length texts
    → weighted_at (texts ++ text ∷ []) (leaves ++ leaf ∷ []) ≡ weighted_at texts leaves ++ placed_term text leaf ∷ []
weighted_push [] [] text leaf same = refl
weighted_push (first ∷ texts) (other ∷ leaves) text leaf same = ap (λ (terms : List Weighted). placed_term first other ∷ terms) (weighted_push texts leaves text leaf (omega (arith, same)))
weighted_push texts leaves text leaf same = absurd (omega (arith, same))

pub weighted_more : (texts : List TermText) (leaves : List ℕ) (i : ℕ) (text : TermText) (leaf : ℕ) → i < length texts → length leaves ≡ i
    → weighted_at (take (i + 1) texts) (leaves ++ leaf ∷ []) ≡ weighted_at (take i texts) leaves ++ placed_term (get_or texts i text) leaf ∷ []
weighted_more texts leaves i text leaf small long =
    let front : length (take i texts) ≡ i = length-take-le i texts (omega (arith, small)) in
    ap (λ (front : List TermText). weighted_at front (leaves ++ leaf ∷ [])) (take_more texts i text small)
    ∙ weighted_push (take i texts) leaves (get_or texts i text) leaf (omega (arith, front, long))

-- ---- what the tests say

-- terms that are fit
pub record AreFit (window : WindowOf) (texts : List TermText) (divisor : ℕ) : Type 0 where
  pub reach : all_reach window texts ≡ true
  pub weigh : all_weigh texts ≡ true
  pub divides : is_divisor (pos divisor) ≡ true
  pub few : length texts ≤ 64

passed : (reach weigh many long : Bool) → (refused_if (not reach) (BadStencil Reach) >>= (λ a. refused_if (not weigh) (BadStencil Weight) >>= (λ b. refused_if many (BadStencil Terms) >>= (λ c. refused_if long (BadStencil Rounds))))) ≡ Ok tt
    → (reach ≡ true) × (weigh ≡ true) × (many ≡ false)
passed true true false long is = (refl, refl, refl)
passed reach weigh many long is = absurd (cc)

pub are_fit : (window : WindowOf) (texts : List TermText) (divisor rounds : ℕ) → fit_terms window texts divisor rounds ≡ Ok tt → AreFit window texts divisor
are_fit window texts divisor rounds is =
    let tests = passed (all_reach window texts) (all_weigh texts && is_divisor (pos divisor)) (nat_lt 64 (length texts)) (nat_lt 1000 rounds) is in
    let both = and_parts (all_weigh texts) (is_divisor (pos divisor)) tests.1 in
    record { reach = tests.0; weigh = both.0; divides = both.1; few = grind (arith, nat_tests, tests.2) }

pub divides_some : (divisor : ℕ) → is_divisor (pos divisor) ≡ true → 0 < divisor
divides_some divisor divides =
    let low = (and_parts (int_le (pos 1) (pos divisor)) (int_le (pos divisor) (pos (2 ^ 31))) divides).0 in
    grind (arith, ints, low)

-- ---- the terms of the code

pub terms_able : (leaf_count : ℕ) (window : WindowOf) (terms : List Term) (texts : List TermText) (leaves : List ℕ) → map weighted terms ≡ weighted_at texts leaves
    → all_reach window texts ≡ true → all_weigh texts ≡ true → All (λ leaf. leaf < leaf_count) leaves → All (IsTermOf leaf_count window) terms
terms_able leaf_count window [] texts leaves is reach weigh inside = All-nil (IsTermOf leaf_count window)
terms_able leaf_count window (term ∷ terms) (text ∷ texts) (leaf ∷ leaves) is reach weigh inside =
    let here : weighted term ≡ placed_term text leaf = cc in
    let rest : map weighted terms ≡ weighted_at texts leaves = cc in
    let near = and_parts (reaches window text.offsets) (all_reach window texts) reach in
    let light = and_parts (is_weight text.weight) (all_weigh texts) weigh in
    All-cons (IsTermOf leaf_count window) term terms (record {
      inside = subst (λ (leaf : ℕ). leaf < leaf_count) (sym (ap (λ (w : Weighted). w.leaf) here)) (All-head (λ leaf. leaf < leaf_count) leaf leaves inside);
      weight = ap (λ (w : Weighted). is_weight w.weight) here ∙ light.0;
      reach = ap (λ (w : Weighted). reaches window w.offsets) here ∙ near.0;
    }) (terms_able leaf_count window terms texts leaves rest near.1 light.1 (All-tail (λ leaf. leaf < leaf_count) leaf leaves inside))
terms_able leaf_count window terms texts leaves is reach weigh inside = absurd (cc)

pub terms_few : (terms : List Term) (texts : List TermText) (leaves : List ℕ) → map weighted terms ≡ weighted_at texts leaves → length terms ≤ length texts
terms_few [] texts leaves is = omega arith
terms_few (term ∷ terms) (text ∷ texts) (leaf ∷ leaves) is =
    let rest : map weighted terms ≡ weighted_at texts leaves = cc in omega (arith, terms_few terms texts leaves rest)
terms_few terms texts leaves is = absurd (cc)

-- one term more
pub terms_more : (terms after : List Term) (texts : List TermText) (leaves : List ℕ) (i : ℕ) (text : TermText) (term : Term) → i < length texts → i < length leaves → after ≡ terms ++ term ∷ []
    → map weighted terms ≡ weighted_at (take i texts) (take i leaves) → weighted term ≡ placed_term (get_or texts i text) (get_or leaves i 0) → map weighted after ≡ weighted_at (take (i + 1) texts) (take (i + 1) leaves)
terms_more terms after texts leaves i text term in_texts in_leaves push so_far is =
    let front : length (take i leaves) ≡ i = length-take-le i leaves (omega (arith, in_leaves)) in
    ap (map weighted) push ∙ map-append weighted terms (term ∷ []) ∙ ap (λ (all : List Weighted). all ++ weighted term ∷ []) so_far
    ∙ ap (λ (one : Weighted). weighted_at (take i texts) (take i leaves) ++ one ∷ []) is
    ∙ sym (weighted_more texts (take i leaves) i text (get_or leaves i 0) in_texts front)
    ∙ ap (weighted_at (take (i + 1) texts)) (sym (take_more leaves i 0 in_leaves))
