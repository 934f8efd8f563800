-- Tables that are copied leaf after leaf of a piece of slots, and piece after piece.
use Rattle.layout_copy.proofs.Imports.{◌≡◌, ⊎_elim, ℕ, ◌+◌, ◌<◌, ◌≤◌, ℤ, List, [], ◌∷◌, length, sum_by, Option, Some, None, option_map, refl, sym, ap, ◌∙◌, subst, arith, IfSome, IsSomeAnd, cases_lt, sum_by-cons, indices, Order, slot_at, slot_count, slot_at_below, entry, tables_same, HasShape, Term, array_of, lanes_in, slots_in, AreRuns, ArraySlots, same_steps, IsRunMoved, with_rows, slot_steps, HasSlots, Table, IsTable, leaf_count_of, AreAlike, round_steps, slot_run_steps, steps_before, order_in, order_by, IsPieceMoved}

-- what is said of the order of an array's slots
in_order : (o : Option (Order × Option ℕ)) (P : Order → Type 0) (Q : Order × Option ℕ → Type 0) → IsSomeAnd o Q → IfSome o (λ array. P array.0) → P (order_in o)
in_order o P Q some h = grind arith

-- a leaf more
leaf_more : (order : Order) (extents : List ℕ) (leaves done slot count : ℕ) (source old now new : List (List ℤ)) → done < leaves
    → IsPieceMoved order extents leaves done slot count source old now
    → IsRunMoved order extents (length (indices extents)) leaves done slot count source now new → IsPieceMoved order extents leaves (done + 1) slot count source old new
leaf_more order extents leaves done slot count source old now new inside so_far run = grind (arith, ⊎_elim, cases_lt)

pub leaf_moved : (old now : Table) (leaf slot count : ℕ) (source new : List (List ℤ)) (other : Term) → now ≡ with_rows old now.rows → IsTable now
    → leaf < leaf_count_of old
    → AreRuns old.mapping other → IsPieceMoved (order_by old.mapping) old.extents (leaf_count_of old) leaf slot count source old.rows now.rows
    → IfSome (array_of now.mapping) (λ array. IsRunMoved array.0 now.extents (length now.rows) (leaf_count_of now) leaf slot count source now.rows new)
    → IsPieceMoved (order_by old.mapping) old.extents (leaf_count_of old) (leaf + 1) slot count source old.rows new
leaf_moved old now leaf slot count source new other is table inside arrays so_far run = grind (arith, leaf_more, in_order)

-- the entries of all rows whose slots are below one are those of another table
pub record AreBelow (order : Order) (extents : List ℕ) (leaves slot : ℕ) (source new : List (List ℤ)) : Type 0 where
  pub each : (row leaf : ℕ) → row < length (indices extents) → leaf < leaves → slot_at order extents row < slot → entry new row leaf ≡ entry source row leaf

-- a piece more
piece_more : (order : Order) (extents : List ℕ) (leaves slot count : ℕ) (source now new : List (List ℤ)) → AreBelow order extents leaves slot source now
    → IsPieceMoved order extents leaves leaves slot count source now new → AreBelow order extents leaves (slot + count) source new
piece_more order extents leaves slot count source now new so_far piece = grind (arith, ⊎_elim, cases_lt)

pub piece_moved : (old now : Table) (slot count : ℕ) (source new : List (List ℤ)) → now ≡ with_rows old now.rows
    → AreBelow (order_by old.mapping) old.extents (leaf_count_of old) slot source now.rows
    → IsPieceMoved (order_by now.mapping) now.extents (leaf_count_of now) (leaf_count_of now) slot count source now.rows new
    → AreBelow (order_by old.mapping) old.extents (leaf_count_of old) (slot + count) source new
piece_moved old now slot count source new is so_far piece = grind (arith, piece_more)

-- once all slots are below, the tables are one
pub all_below : (source old new : Table) (slot : ℕ) → AreAlike old source → IsTable source → IsTable new → new ≡ with_rows old new.rows
    → AreBelow (order_by old.mapping) old.extents (leaf_count_of old) slot source.rows new.rows → slot_count (order_by old.mapping) old.extents ≤ slot → new ≡ with_rows old source.rows
all_below source old new slot alike is now same below all =
    let rows : ℕ = length (indices old.extents) in
    let order : Order = order_by old.mapping in
    let source_rows : length source.rows ≡ rows = is.rows ∙ ap (λ (e : List ℕ). length (indices e)) (sym alike.1) in
    let source_leaves : leaf_count_of source ≡ leaf_count_of old = ap (λ f. leaf_count_of (record source { fields = f })) (sym alike.0) in
    let new_rows : length new.rows ≡ rows = now.rows ∙ ap (λ (t : Table). length (indices t.extents)) same in
    let new_leaves : leaf_count_of new ≡ leaf_count_of old = ap leaf_count_of same in
    let one : HasShape rows (leaf_count_of old) new.rows =
    subst (λ (n : ℕ). HasShape n (leaf_count_of old) new.rows) new_rows (subst (λ (l : ℕ). HasShape (length new.rows) l new.rows) new_leaves now.shape) in
    let two : HasShape rows (leaf_count_of old) source.rows =
    subst (λ (n : ℕ). HasShape n (leaf_count_of old) source.rows) source_rows (subst (λ (l : ℕ). HasShape (length source.rows) l source.rows) source_leaves is.shape) in
    let table : new.rows ≡ source.rows =
    tables_same rows (leaf_count_of old) new.rows source.rows one two
    (λ row leaf inside leaf_in. below.each row leaf inside leaf_in (omega (arith, slot_at_below order old.extents row inside, all))) in
    same ∙ ap (with_rows old) table

-- the slots of a mapping that lays out arrays
pub slots_are : (o : Option (Order × Option ℕ)) (extents : List ℕ) (slots : ArraySlots) → option_map (slots_in extents) o ≡ Some slots
    → slot_count (order_in o) extents ≡ slots.slots
slots_are o extents slots is = grind arith

-- slots of a mapping
pub has_slots : (term : Term) (extents : List ℕ) (slots : ArraySlots) (slot count : ℕ) → option_map (slots_in extents) (array_of term) ≡ Some slots
    → slot + count ≤ slots.slots → HasSlots term extents slot count
has_slots term extents slots slot count is inside = of (array_of term) is where
  of : (o : Option (Order × Option ℕ)) → option_map (slots_in extents) o ≡ Some slots → IfSome o (λ array. slot + count ≤ slot_count array.0 extents)
  of None is = tt
  of (Some array) is =
      let same : slots ≡ slots_in extents array = cc is in
      subst (λ (s : ArraySlots). slot + count ≤ s.slots) same inside

-- the steps of all pieces
pub all_steps : (source target : Table) (from to : ArraySlots) (sizes : List ℕ) → AreAlike target source → AreRuns target.mapping source.mapping
    → option_map (slots_in source.extents) (array_of source.mapping) ≡ Some from → option_map (slots_in target.extents) (array_of target.mapping) ≡ Some to
    → slot_run_steps (array_of source.mapping) (array_of target.mapping) target.extents sizes ≡ steps_before from.slots from.lanes to.lanes sizes from.slots
all_steps source target from to sizes alike arrays one two =
    of (array_of source.mapping) (array_of target.mapping) arrays (subst (λ (e : List ℕ). option_map (slots_in e) (array_of source.mapping) ≡ Some from) (sym alike.1) one) two where
      of : (o p : Option (Order × Option ℕ)) → IsSomeAnd p (λ array. IsSomeAnd o (λ other. array.0 ≡ other.0)) → option_map (slots_in target.extents) o ≡ Some from
          → option_map (slots_in target.extents) p ≡ Some to → slot_run_steps o p target.extents sizes ≡ steps_before from.slots from.lanes to.lanes sizes from.slots
      of None p are first second = absurd (cc first)
      of (Some array) None are first second = absurd (cc second)
      of (Some array) (Some other) are first second =
          let two_is : slots_in target.extents other ≡ to = cc second in
          let slots : ℕ = slot_count array.0 target.extents in
          let same : slot_count other.0 target.extents ≡ slots = ap (λ (order : Order). slot_count order target.extents) are in
          let lanes : lanes_in other.1 slots ≡ to.lanes = ap (lanes_in other.1) (sym same) ∙ ap (λ (s : ArraySlots). s.lanes) two_is in
          ap (λ (n : ℕ). steps_before slots (lanes_in array.1 slots) n sizes slots) lanes
          ∙ ap (λ (s : ArraySlots). steps_before s.slots s.lanes to.lanes sizes s.slots) (cc first)

-- and those of a round
pub steps_of_round : (source target : Table) (from to : ArraySlots) (sizes : List ℕ) (slot count : ℕ) → AreAlike target source → AreRuns target.mapping source.mapping
    → option_map (slots_in source.extents) (array_of source.mapping) ≡ Some from → option_map (slots_in target.extents) (array_of target.mapping) ≡ Some to
    → round_steps (array_of source.mapping) (array_of target.mapping) target.extents sizes slot count ≡ sum_by (λ size. slot_steps from.lanes to.lanes size slot count) sizes
steps_of_round source target from to [] slot count alike arrays one two = refl
steps_of_round source target from to (size ∷ sizes) slot count alike arrays one two = grind (arith, same_steps, sum_by-cons, (steps_of_round source target from to sizes slot count alike arrays one two))
