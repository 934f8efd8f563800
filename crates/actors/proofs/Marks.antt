-- Marks of the leaves that are read.
use Rattle.actors.proofs.Imports.{or-false, or_right, ne_eqb, get_or-replicate, ◌≡◌, ℕ, ◌+◌, ◌<◌, ◌≤◌, Bool, true, false, List, [], ◌∷◌, ◌++◌, length, map, get_or, set, take, fold, replicate, refl, sym, ap, ◌∙◌, subst, ⊎_elim, arith, length-append, ◌==◌, ◌||◌, flat_map, get_or-append, get_or-append_seam, cases_eq, cases_lt, eq-eqb, get_or-map, get_or-set_same, get_or-set_other, length-set, length-map, length-replicate, append-nil, take_more, flat_map-append, fold-append, Assign, Setting, setting_of, Job, is_in, filter_reads, set_reads, leaves_read, lets_through, Asks, marked, IsRowPlanOf, ArePlans}

-- a leaf is marked where it was, or is among those that are read
marks_are : (reads : List ℕ) (asked : List Bool) (leaf : ℕ) → leaf < length asked → get_or (fold marked asked reads) leaf false ≡ (get_or asked leaf false || is_in reads leaf)
marks_are [] asked leaf low = sym (or-false (get_or asked leaf false))
marks_are (x ∷ reads) asked leaf low =
    marks_are reads (set asked x true) leaf (omega (arith, low, length-set asked x true)) ∙ ap (λ (m : Bool). m || is_in reads leaf) here ∙ by_mark (get_or asked leaf false) (x == leaf) where
      by_mark : (mark here : Bool) → ((mark || here) || is_in reads leaf) ≡ (mark || (here || is_in reads leaf))
      by_mark true here = refl
      by_mark false here = refl

      here : get_or (set asked x true) leaf false ≡ (get_or asked leaf false || (x == leaf))
      here =
          ⊎_elim (λ (same : leaf ≡ x).
          ap (λ (w : ℕ). get_or (set asked x true) w false) same ∙ get_or-set_same asked x true false (omega (arith, low, same))
          ∙ sym (or_right (get_or asked leaf false) (x == leaf) (eq-eqb x leaf (sym same))))
          (λ (other : leaf ≡ x → ⊥).
          get_or-set_other asked x leaf true false other ∙ sym (or-false (get_or asked leaf false))
          ∙ ap (λ (t : Bool). get_or asked leaf false || t) (sym (ne_eqb x leaf (λ e. other (sym e)))))
          (cases_eq leaf x)

pub marks_of : (reads : List ℕ) (asked : List Bool) → asked ≡ fold marked (replicate 64 false) reads → (leaf : ℕ) → leaf < 64 → get_or asked leaf false ≡ is_in reads leaf
marks_of reads asked is leaf low =
    ap (λ (w : List Bool). get_or w leaf false) is ∙ marks_are reads (replicate 64 false) leaf (omega (arith, low, length-replicate {A = Bool} 64 false))
    ∙ ap (λ (m : Bool). m || is_in reads leaf) (get_or-replicate 64 leaf false false low)

-- marks after others
pub more_marks : (asked : List Bool) (first rest : List ℕ) → fold marked (fold marked asked first) rest ≡ fold marked asked (first ++ rest)
more_marks asked first rest = sym (fold-append marked asked first rest)

-- the reads of one right side more
pub one_set : (job : Job) (row : ℕ) (sets : List Assign) (n : ℕ) (set : Assign) (asked : List Bool) → n < length sets → set ≡ get_or sets n set
    → fold marked (fold marked asked (flat_map (set_reads job row) (take n (map setting_of sets)))) (set_reads job row (setting_of set))
    ≡ fold marked asked (flat_map (set_reads job row) (take (n + 1) (map setting_of sets)))
one_set job row sets n set asked low is =
    let settings = map setting_of sets in
    let steps = flat_map (set_reads job row) in
    let at : get_or settings n (setting_of set) ≡ setting_of set = get_or-map setting_of sets n set (setting_of set) low ∙ ap setting_of (sym is) in
    let next : take (n + 1) settings ≡ take n settings ++ setting_of set ∷ [] =
    take_more settings n (setting_of set) (omega (arith, low, length-map sets setting_of)) ∙ ap (λ (s : Setting). take n settings ++ s ∷ []) at in
    grind (arith, more_marks, append-nil, flat_map-append)

-- a row that the filter leaves out, and one that it lets through
pub plan_left : (job : Job) (row : ℕ) (asked : List Bool) → lets_through job row ≡ false → asked ≡ fold marked (replicate 64 false) (filter_reads job row job.filter)
    → (leaf : ℕ) → leaf < 64 → get_or asked leaf false ≡ is_in (leaves_read job row) leaf
plan_left job row asked out is = grind (arith, flat_map, append-nil, marks_of)

pub plan_through : (job : Job) (row : ℕ) (before asked : List Bool) → lets_through job row ≡ true → before ≡ fold marked (replicate 64 false) (filter_reads job row job.filter)
    → asked ≡ fold marked before (flat_map (set_reads job row) job.sets) → (leaf : ℕ) → leaf < 64 → get_or asked leaf false ≡ is_in (leaves_read job row) leaf
plan_through job row before asked through first is = grind (arith, flat_map, marks_of, more_marks)

-- one plan more
pub no_plans : (job : Job) → ArePlans job 0 []
no_plans job = record { long = refl; each = λ row other low. absurd (let bad : ⊥ = omega (arith, low) in bad) }

pub one_plan : (job : Job) (n : ℕ) (plans : List Asks) (plan : Asks) → ArePlans job n plans → IsRowPlanOf job n plan → ArePlans job (n + 1) (plans ++ plan ∷ [])
one_plan job n plans plan so_far here = record {
  long = length-append plans (plan ∷ []) ∙ ap (λ (w : ℕ). w + 1) so_far.long;
  each = λ row other low.
      ⊎_elim (λ (less : row < n).
      subst (IsRowPlanOf job row) (sym (get_or-append plans (plan ∷ []) other row (omega (arith, less, so_far.long)))) (so_far.each row other less))
      (λ (more : n ≤ row).
      let last : row ≡ length plans = omega (arith, more, low, so_far.long) in grind (arith, get_or-append_seam))
      (cases_lt row n);
}
