-- Every bit of the cells of both sides has exactly one place in the layout of a split.
use Rattle.std.specs.Prelude.{◌≡◌, ℕ, ◌%◌, ◌<◌, ◌≤◌, ◌⊎◌, Bool, true, false, List, map, length, get_or, All, not}
use Rattle.record_dim.specs.Std.{inl, inr, ⊎_elim, sym, ap, ◌∙◌, subst, arith, cases_Bool, length-map, All-map, All-append}
use Rattle.std.specs.List.{count_by}
use Rattle.places.specs.Prelude.{Owner, Bit, renamed, recelled, numbers_of, split, IsBitOf, IsLaidOut, Back, relabel_lays_out, join_lays_out, lays_out_same, laid_out, lays_out}
use Rattle.places.specs.declared.piece.Cell.{Cell}
use Rattle.places.specs.declared.piece.Hold.{Hold}
use Rattle.map_split.specs.Sides.{merged, rank_first, rank_rest}
use Rattle.map_split.specs.SidesLaws.{number_first, number_rest, rank_first_in, rank_rest_in, merged_first, merged_rest, length-merged, map-merged, numbers_first, numbers_rest, all_merged}

-- the name of a bit under the numbers of the whole
abbrev named : List ℕ → ℕ → ℕ → ℕ → Owner
named numbers slot cell bit = Bit slot (get_or numbers cell 0) bit

whole_bytes : (numbers : List ℕ) (layout : List (List Owner)) → All (λ blob. length blob % 8 ≡ 0) layout → All (λ blob. length blob % 8 ≡ 0) (recelled numbers layout)
whole_bytes numbers layout h =
    let name : Owner → Owner = renamed (named numbers) in
    All-map (λ (blob : List Owner). length blob % 8 ≡ 0) (map name) layout
    (λ k d inside. ap (λ (n : ℕ). n % 8) (length-map (get_or layout k d) name) ∙ h k d inside)

module _ (side : List Bool) (first rest : List (List Owner)) (n : ℕ) (ws vs : List ℕ) (one : IsLaidOut first n ws) (two : IsLaidOut rest n vs)
    (left : length ws ≡ count_by (λ (s : Bool). s) side) (right : length vs ≡ count_by not side) where
  -- a bit of a cell of this side
  abbrev InSide : Bool → ℕ → ℕ → ℕ → Type 0
  InSide which s c k = IsBitOf n (merged side ws vs) s c k × (get_or side c false ≡ which)

  size : length (merged side ws vs) ≡ length side
  size = length-merged side ws vs (omega (arith, left, right)) (omega (arith, left, right))

  width_first : (c : ℕ) → c < length side → get_or side c false ≡ true → get_or (merged side ws vs) c 0 ≡ get_or ws (rank_first side c) 0
  width_first c inside e = merged_first 0 side ws vs c inside e (omega (arith, left, right)) (omega (arith, left, right))

  width_rest : (c : ℕ) → c < length side → get_or side c false ≡ false → get_or (merged side ws vs) c 0 ≡ get_or vs (rank_rest side c) 0
  width_rest c inside e = merged_rest 0 side ws vs c inside e (omega (arith, left, right)) (omega (arith, left, right))

  to_first : (s c k s' c' k' : ℕ) → IsBitOf n ws s c k → named (numbers_of side) s c k ≡ Bit s' c' k'
      → InSide true s' c' k' × (s ≡ s') × (c ≡ rank_first side c') × (k ≡ k')
  to_first s c k s' c' k' h e =
      let cell_in : c < length ws = h.cell_in in
      let from = numbers_first 0 side c (omega (arith, left)) in
      let same : from.0 ≡ c' =
      (omega arith) ∙ sym from.1 ∙ (cc) in
      let slots : s ≡ s' = cc in
      let bits : k ≡ k' = cc in
      let there : from.0 < length side = from.2 in
      let bit_in : k < get_or ws c 0 = h.bit_in in
      let width : get_or (merged side ws vs) from.0 0 ≡ get_or ws c 0 =
      width_first from.0 there from.3 ∙ ap (λ (i : ℕ). get_or ws i 0) from.4 in
      let here : InSide true s from.0 k = (record { slot_in = h.slot_in; cell_in = omega (arith, size); bit_in = omega arith }, from.3) in
      let moved : InSide true s' c' k' =
      subst (λ (x : ℕ). InSide true x c' k') slots (subst (λ (x : ℕ). InSide true s x k') same (subst (λ (x : ℕ). InSide true s from.0 x) bits here)) in
      (moved, slots, sym from.4 ∙ ap (rank_first side) same, bits)

  to_rest : (s c k s' c' k' : ℕ) → IsBitOf n vs s c k → named (numbers_of (map not side)) s c k ≡ Bit s' c' k'
      → InSide false s' c' k' × (s ≡ s') × (c ≡ rank_rest side c') × (k ≡ k')
  to_rest s c k s' c' k' h e =
      let cell_in : c < length vs = h.cell_in in
      let from = numbers_rest 0 side c (omega (arith, right)) in
      let same : from.0 ≡ c' =
      (omega arith) ∙ sym from.1 ∙ (let z : get_or (numbers_of (map not side)) c 0 ≡ c' = cc in z) in
      let slots : s ≡ s' = cc in
      let bits : k ≡ k' = cc in
      let there : from.0 < length side = from.2 in
      let bit_in : k < get_or vs c 0 = h.bit_in in
      let width : get_or (merged side ws vs) from.0 0 ≡ get_or vs c 0 =
      width_rest from.0 there from.3 ∙ ap (λ (i : ℕ). get_or vs i 0) from.4 in
      let here : InSide false s from.0 k = (record { slot_in = h.slot_in; cell_in = omega (arith, size); bit_in = omega arith }, from.3) in
      let moved : InSide false s' c' k' =
      subst (λ (x : ℕ). InSide false x c' k') slots (subst (λ (x : ℕ). InSide false s x k') same (subst (λ (x : ℕ). InSide false s from.0 x) bits here)) in
      (moved, slots, sym from.4 ∙ ap (rank_rest side) same, bits)

  back_first : Back (IsBitOf n ws) (InSide true) (named (numbers_of side)) (λ s c k. s) (λ s c k. rank_first side c) (λ s c k. k)
  back_first = record {
    from = λ s c k h. grind (arith, size, get_or, count_by, rank_first_in, width_first);
    to = λ s c k h. grind (arith, size, number_first);
    out = λ s c k s' c' k' h e. (to_first s c k s' c' k' h e).0;
    back = λ s c k s' c' k' h e. let r = to_first s c k s' c' k' h e in (r.1, r.2, r.3);
  }

  back_rest : Back (IsBitOf n vs) (InSide false) (named (numbers_of (map not side))) (λ s c k. s) (λ s c k. rank_rest side c) (λ s c k. k)
  back_rest = record {
    from = λ s c k h. grind (arith, size, get_or, count_by, rank_rest_in, width_rest);
    to = λ s c k h. grind (arith, size, number_rest);
    out = λ s c k s' c' k' h e. (to_rest s c k s' c' k' h e).0;
    back = λ s c k s' c' k' h e. let r = to_rest s c k s' c' k' h e in (r.1, r.2, r.3);
  }

  pub split_laid : IsLaidOut (split side first rest) n (merged side ws vs)
  split_laid =
      laid_out
      (lays_out_same
      (join_lays_out
      (relabel_lays_out (named (numbers_of side)) (λ s c k. s) (λ s c k. rank_first side c) (λ s c k. k) first back_first (lays_out one))
      (relabel_lays_out (named (numbers_of (map not side))) (λ s c k. s) (λ s c k. rank_rest side c) (λ s c k. k) rest back_rest (lays_out two))
      (λ s c k (h : InSide true s c k) (g : InSide false s c k). let never : ⊥ = cc (h.1, g.1) in never))
      (λ s c k (h : InSide true s c k ⊎ InSide false s c k). ⊎_elim (λ (i : InSide true s c k). i.0) (λ (i : InSide false s c k). i.0) h)
      (λ s c k (h : IsBitOf n (merged side ws vs) s c k).
      ⊎_elim (λ (e : get_or side c false ≡ true). inl (h, e)) (λ (e : get_or side c false ≡ false). inr (h, e)) (cases_Bool (get_or side c false))))
      (All-append (λ (blob : List Owner). length blob % 8 ≡ 0) (recelled (numbers_of side) first) (recelled (numbers_of (map not side)) rest)
      (whole_bytes (numbers_of side) first one.whole_bytes) (whole_bytes (numbers_of (map not side)) rest two.whole_bytes))
      (all_merged (λ (w : ℕ). w ≤ 64) side ws vs left right one.narrow two.narrow)
      (all_merged (λ (w : ℕ). 1 ≤ w) side ws vs left right one.wide two.wide)

-- the same of cells that are stored so, whose sides have the same slots
pub split_laws : (side : List Bool) (first rest : List (List Owner)) (n m : ℕ) (hs gs : List Hold) → IsLaidOut first n (map (λ (h : Hold). h.width) hs)
    → IsLaidOut rest m (map (λ (h : Hold). h.width) gs) → n ≡ m → length hs ≡ count_by (λ (s : Bool). s) side → length gs ≡ count_by not side
    → IsLaidOut (split side first rest) n (map (λ (h : Hold). h.width) (merged side hs gs))
split_laws side first rest n m hs gs one two same left right =
    let width : Hold → ℕ = λ (h : Hold). h.width in
    subst (λ (ws : List ℕ). IsLaidOut (split side first rest) n ws) (sym (map-merged width side hs gs))
    (split_laid side first rest n (map width hs) (map width gs) one (subst (λ (k : ℕ). IsLaidOut rest k (map width gs)) (sym same) two)
    (length-map hs width ∙ left) (length-map gs width ∙ right))

-- each cell is stored
pub length-cells : (side : List Bool) (hs gs : List Hold) (cells : List Cell) → length side ≡ length cells → length hs ≡ count_by (λ (s : Bool). s) side
    → length gs ≡ count_by not side → length (merged side hs gs) ≡ length cells
length-cells side hs gs cells each left right = length-merged side hs gs (omega (arith, left)) (omega (arith, right)) ∙ each
