use Rattle.c_lines.proofs.Lemmas.{rules, ◌≡◌, ◌<◌, ◌^◌, true, false, ℕ, ℤ, pos, ◌≤ℤ◌, List, [], ◌∷◌, ◌++◌, get_or, length, map, take, w64, FitsSigned, to_z, of_z, sym, ap, ◌∙◌, arith, ints, to_z-of_z, get_or-map, length-map, length-set, map-append, take_more, take_more_set, low_64, own_low}
use Rattle.c_lines.proofs.unsigned.put_lows.Goals as goal

pub loop-k-preserved : goal.loop-k-preserved
loop-k-preserved c =
    let numbers = c.args.values.now in
    let values : List ℤ = map (λ (n : ℕ). pos n) numbers in
    let k = c.loop-k.k in
    let low = c.cast_signed-low.result in
    let fits : FitsSigned w64 low = search rules in
    let small : get_or numbers k 0 < 2 ^ 64 = (c.type_inv.values k).fits in
    let inside : k < length numbers = omega arith in
    let next = take_more values k (pos 0) (omega (arith, inside, length-map numbers (λ (n : ℕ). pos n))) in
    let value : get_or values k (pos 0) ≡ pos (get_or numbers k 0) = get_or-map (λ (n : ℕ). pos n) numbers k 0 (pos 0) inside in
    let stored = take_more_set c.loop-k.lows k (to_z w64 (of_z w64 low)) (omega (arith, c.loop-k.invariant.room)) ∙ ap (λ (v : ℤ). take k c.loop-k.lows ++ v ∷ []) (to_z-of_z w64 low fits) in
    let some : c.args.any ≡ false → pos 0 ≤ℤ low = λ none. elim c.else-low-lt0.branch [
      | goal.else-low-lt0-via-then-low-lt0+else-not-any w ↦ absurd (let no : true ≡ false = sym w.if-not-any.false ∙ none in cc no)
      | goal.else-low-lt0-via-else-low-lt0 w ↦ omega (arith, ints, w.if-low-lt0.false, to_z-of_z w64 low fits)
    ] in
    record {
      room = length-set c.loop-k.lows k (to_z w64 (of_z w64 low)) ∙ c.loop-k.invariant.room;
      lows = stored ∙ ap (λ (l : List ℤ). l ++ low ∷ []) c.loop-k.invariant.lows
          ∙ ap (λ (v : ℤ). map low_64 (take k values) ++ v ∷ []) (c.cast_signed-low.ensures ∙ sym (ap low_64 value))
          ∙ sym (map-append low_64 (take k values) (get_or values k (pos 0) ∷ [])) ∙ ap (map low_64) (sym next);
      own = λ none. stored ∙ ap (λ (l : List ℤ). l ++ low ∷ []) (c.loop-k.invariant.own none)
          ∙ ap (λ (v : ℤ). take k values ++ v ∷ []) (own_low (get_or numbers k 0) low small c.cast_signed-low.ensures (some none) ∙ sym value) ∙ sym next;
    }
