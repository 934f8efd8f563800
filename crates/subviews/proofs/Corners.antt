-- Whether a term reads inside the array is seen at two rows of a window: its first and its last.
use Rattle.subviews.proofs.Imports.{◌≡◌, ℕ, ◌+◌, ◌-◌, ◌<◌, ◌≤ℤ◌, Bool, true, false, ℤ, pos, neg_ℤ, ◌+ℤ◌, ◌-ℤ◌, List, [], ◌∷◌, length, map, get_or, Contains, Some, refl, ap, sym, subst, ◌∙◌, arith, ◌&&◌, ◌||◌, ◌==◌, nat_lt, int_le, slice_get, list_all, position_or_len, signed_items, and_parts, ltb-true, lt-ltb, cases_lt, nat_tests, ints, AllPass-from_list_all, list_all-from_AllPass, fails_before_first, slice_get-get_or, slice_get_within, get_or_from_slice_get, indices, IsInside, inside_of_entry, row_of_inside, Span, IsWindow, sizes, moved, window_count, window_row, moved_inside, same_rank, index_at, index_at_inside, WindowOf, rows_of, away, is_index, row_from, is_offset, reaches, stays, all_stay}
use Rattle.subviews.proofs.Ways.{found}

-- two tests that hold of the same
same_test : (a b : Bool) → (a ≡ true → b ≡ true) → (b ≡ true → a ≡ true) → a ≡ b
same_test a b forth back = grind arith

-- ---- the rows of a window

-- a row whose index is one of the window's own array, moved
record IsHeld (window : WindowOf) (row : ℕ) : Type 0 where
  index : List ℕ
  inside : IsInside (sizes window.1) index
  is : index_at window.0 row ≡ moved window.1 index

row_at_place : (window : WindowOf) → IsWindow window.0 window.1 → (k d : ℕ) → k < length (rows_of window) → IsHeld window (get_or (rows_of window) k d)
row_at_place window is k d small =
    let e = window.0 in
    let spans = window.1 in
    let within : k < length (indices (sizes spans)) = omega (arith, small, window_count e spans is) in
    let index = get_or (indices (sizes spans)) k [] in
    let at : slice_get (indices (sizes spans)) k ≡ Some index = slice_get-get_or (indices (sizes spans)) k [] within in
    let inside = inside_of_entry (sizes spans) k index at in
    let there = row_of_inside e (moved spans index) (moved_inside e spans index is inside) in
    let row_is : get_or (rows_of window) k d ≡ there.0 = get_or_from_slice_get (rows_of window) k there.0 d (window_row e spans is k index there.0 at there.2) in
    record { index = index; inside = inside; is = ap (index_at e) row_is ∙ get_or_from_slice_get (indices e) there.0 (moved spans index) [] there.2 }

-- and each of these indices has a row
record HasRow (window : WindowOf) (index : List ℕ) : Type 0 where
  row : ℕ
  held : Contains (rows_of window) row
  is : index_at window.0 row ≡ moved window.1 index

row_of_index : (window : WindowOf) → IsWindow window.0 window.1 → (index : List ℕ) → IsInside (sizes window.1) index → HasRow window index
row_of_index window is index inside =
    let e = window.0 in
    let spans = window.1 in
    let own = row_of_inside (sizes spans) index inside in
    let there = row_of_inside e (moved spans index) (moved_inside e spans index is inside) in
    let at : slice_get (rows_of window) own.0 ≡ Some there.0 = window_row e spans is own.0 index there.0 own.2 there.2 in
    grind (arith, slice_get_within, get_or_from_slice_get)

-- ---- numbers

nonnegative : (z o : ℤ) (n : ℕ) → z ≡ pos n +ℤ o → int_le (neg_ℤ (pos n)) o ≡ true → pos 0 ≤ℤ z
nonnegative z o n is low = grind (arith, ints)

natural : (z : ℤ) → pos 0 ≤ℤ z → (m : ℕ) × (z ≡ pos m)
natural z low = grind arith

below : (m extent i from end : ℕ) (o : ℤ) → pos m ≡ pos (from + i) +ℤ o → i < end - from → int_le o (pos extent -ℤ pos end) ≡ true → m < extent
below m extent i from end o is inside high = grind (arith, ints)

stays_of : (extent : ℕ) (span : Span) (i l h : ℕ) (o : ℤ) → i < span.end - span.from → h < extent → pos l ≡ pos (span.from + 0) +ℤ o → pos h ≡ pos (span.from + (span.end - span.from - 1)) +ℤ o
    → stays extent span o ≡ true
stays_of extent span i l h o inside high first last = grind (arith, int_le, neg_ℤ)

-- ---- where every dimension stays, every row reaches

-- an index inside with these components
record IsTarget (extents : List ℕ) (components : List ℤ) : Type 0 where
  to : List ℕ
  inside : IsInside extents to
  is : map pos to ≡ components

target : (extents : List ℕ) (spans : List Span) (index : List ℕ) (offsets : List ℤ) → IsInside (sizes spans) index → length spans ≡ length extents → length offsets ≡ length extents
    → all_stay extents spans offsets ≡ true → IsTarget extents (away (moved spans index) offsets)
target [] [] [] [] inside ranked long stay = record { to = []; inside = tt; is = refl }
target (extent ∷ extents) (span ∷ spans) (i ∷ index) (o ∷ offsets) inside ranked long stay =
    let both = and_parts (stays extent span o) (all_stay extents spans offsets) stay in
    let two = and_parts (int_le (neg_ℤ (pos span.from)) o) (int_le o (pos extent -ℤ pos span.end)) both.0 in
    let less : int_le (neg_ℤ (pos (span.from + i))) o ≡ true = grind (arith, ints, two.0) in
    let here = natural (pos (span.from + i) +ℤ o) (nonnegative (pos (span.from + i) +ℤ o) o (span.from + i) refl less) in
    let rest = target extents spans index offsets inside.1 (omega (arith, ranked)) (omega (arith, long)) both.1 in
    record {
      to = here.0 ∷ rest.to;
      inside = (below here.0 extent i span.from span.end o (sym here.1) inside.0 two.1, rest.inside);
      is = ap (λ (z : ℤ). z ∷ map pos rest.to) (sym here.1) ∙ ap (λ (zs : List ℤ). (pos (span.from + i) +ℤ o) ∷ zs) rest.is;
    }
target extents spans index offsets inside ranked long stay = absurd (grind arith)

-- an index of the array with these components is found
found_below : (e to : List ℕ) (components : List ℤ) → IsInside e to → map pos to ≡ components → position_or_len (is_index components) (indices e) < length (indices e)
found_below e to components inside is =
    let there = row_of_inside e to inside in
    let at : get_or (indices e) there.0 [] ≡ to = get_or_from_slice_get (indices e) there.0 to [] there.2 in
    let passes : is_index components (get_or (indices e) there.0 []) ≡ true = (signed_items (map pos (get_or (indices e) there.0 [])) components).1 (ap (map pos) at ∙ is) in
    grind (arith, fails_before_first, cases_lt)

-- ---- where every row reaches, every dimension stays

abbrev zeros : List ℕ → List ℕ
zeros ns = map (λ (n : ℕ). 0) ns

abbrev tops : List ℕ → List ℕ
tops ns = map (λ (n : ℕ). n - 1) ns

-- where some index is inside, each number can be made less
map_inside : (f : ℕ → ℕ) → ((n : ℕ) → 0 < n → f n < n) → (ns index : List ℕ) → IsInside ns index → IsInside ns (map f ns)
map_inside f less [] [] inside = tt
map_inside f less (n ∷ ns) (i ∷ index) inside = (less n (omega (arith, inside.0)), map_inside f less ns index inside.1)
map_inside f less ns index inside = absurd inside

stays_by_corners : (extents : List ℕ) (spans : List Span) (offsets : List ℤ) (index low high : List ℕ) → IsInside (sizes spans) index → IsInside extents low → IsInside extents high
    → map pos low ≡ away (moved spans (zeros (sizes spans))) offsets → map pos high ≡ away (moved spans (tops (sizes spans))) offsets → all_stay extents spans offsets ≡ true
stays_by_corners (extent ∷ extents) (span ∷ spans) (o ∷ offsets) (i ∷ index) (l ∷ low) (h ∷ high) inside a b first last =
    let one : pos l ≡ pos (span.from + 0) +ℤ o = cc in
    let two : pos h ≡ pos (span.from + (span.end - span.from - 1)) +ℤ o = cc in
    let rest : map pos low ≡ away (moved spans (zeros (sizes spans))) offsets = cc in
    let rest' : map pos high ≡ away (moved spans (tops (sizes spans))) offsets = cc in
    rw (stays_of extent span i l h o inside.0 b.0 one two) (stays_by_corners extents spans offsets index low high inside.1 a.1 b.1 rest rest')
stays_by_corners (extent ∷ extents) (span ∷ spans) (o ∷ offsets) index low high inside a b first last = absurd (grind arith)
stays_by_corners extents spans offsets index low high inside a b first last = refl

-- ---- both together

abbrev lands : WindowOf → List ℤ → ℕ → Bool
lands window offsets row = nat_lt (row_from window.0 row offsets) (length (indices window.0))

module _ (window : WindowOf) (offsets : List ℤ) (is : IsWindow window.0 window.1) (long : length offsets ≡ length window.0) where
  all_land : all_stay window.0 window.1 offsets ≡ true → list_all (lands window offsets) (rows_of window) ≡ true
  all_land stay = list_all-from_AllPass (lands window offsets) (rows_of window) (λ k d small.
      let held = row_at_place window is k d small in
      let row = get_or (rows_of window) k d in
      let to = target window.0 window.1 held.index offsets held.inside (same_rank window.0 window.1 is) long stay in
      let same : away (moved window.1 held.index) offsets ≡ away (index_at window.0 row) offsets = ap (λ (index : List ℕ). away index offsets) (sym held.is) in
      lt-ltb (row_from window.0 row offsets) (length (indices window.0)) (found_below window.0 to.to (away (index_at window.0 row) offsets) to.inside (to.is ∙ same)))

  all_in : (k : ℕ) → k < length (rows_of window) → list_all (lands window offsets) (rows_of window) ≡ true → all_stay window.0 window.1 offsets ≡ true
  all_in k small all =
      let e = window.0 in
      let pass = AllPass-from_list_all (lands window offsets) (rows_of window) all in
      let some = row_at_place window is k 0 small in
      let low = row_of_index window is (zeros (sizes window.1)) (map_inside (λ (n : ℕ). 0) (λ n less. less) (sizes window.1) some.index some.inside) in
      let high = row_of_index window is (tops (sizes window.1)) (map_inside (λ (n : ℕ). n - 1) (λ n less. omega (arith, less)) (sizes window.1) some.index some.inside) in
      let land : (row : ℕ) → Contains (rows_of window) row → row_from e row offsets < length (indices e) = λ row held.
      ltb-true (row_from e row offsets) (length (indices e)) (sym (ap (lands window offsets) held.2) ∙ pass held.0 row held.1) in
      stays_by_corners e window.1 offsets some.index (index_at e (row_from e low.row offsets)) (index_at e (row_from e high.row offsets)) some.inside
      (index_at_inside e (row_from e low.row offsets) (land low.row low.held)) (index_at_inside e (row_from e high.row offsets) (land high.row high.held))
      (found e low.row offsets (land low.row low.held) ∙ ap (λ (index : List ℕ). away index offsets) low.is)
      (found e high.row offsets (land high.row high.held) ∙ ap (λ (index : List ℕ). away index offsets) high.is)

  land_is : list_all (lands window offsets) (rows_of window) ≡ ((length (rows_of window) == 0) || all_stay window.0 window.1 offsets)
  land_is = of_rows (rows_of window) refl where
    of_rows : (rows : List ℕ) → rows_of window ≡ rows → list_all (lands window offsets) rows ≡ ((length rows == 0) || all_stay window.0 window.1 offsets)
    of_rows [] rows = refl
    of_rows (row ∷ rows) same =
        let some : (length (row ∷ rows) == 0) ≡ false = grind (arith, nat_tests) in
        let within : 0 < length (row ∷ rows) = omega arith in
        same_test (list_all (lands window offsets) (row ∷ rows)) (all_stay window.0 window.1 offsets)
        (λ all. all_in 0 (subst (λ (xs : List ℕ). 0 < length xs) (sym same) within) (ap (list_all (lands window offsets)) same ∙ all))
        (λ stay. sym (ap (list_all (lands window offsets)) same) ∙ all_land stay)
        ∙ ap (λ (none : Bool). none || all_stay window.0 window.1 offsets) (sym some)

reaches_is : (window : WindowOf) (offsets : List ℤ) → IsWindow window.0 window.1
    → reaches window offsets ≡ ((length offsets == length window.0) && (list_all is_offset offsets && ((length (rows_of window) == 0) || all_stay window.0 window.1 offsets)))
reaches_is window offsets is = by_rank (length offsets == length window.0) (λ same. grind (arith, nat_tests)) where
  by_rank : (test : Bool) → (test ≡ true → length offsets ≡ length window.0) → (test && (list_all is_offset offsets && list_all (lands window offsets) (rows_of window)))
      ≡ (test && (list_all is_offset offsets && ((length (rows_of window) == 0) || all_stay window.0 window.1 offsets)))
  by_rank true long = ap (λ (all : Bool). list_all is_offset offsets && all) (land_is window offsets is (long refl))
  by_rank false long = refl

-- where the offsets are as many as the extents, and none is too far
pub reaches_rest : (window : WindowOf) (offsets : List ℤ) (rest : Bool) → IsWindow window.0 window.1 → length offsets ≡ length window.0 → list_all is_offset offsets ≡ true
    → ((length (rows_of window) == 0) || all_stay window.0 window.1 offsets) ≡ rest → rest ≡ reaches window offsets
reaches_rest window offsets rest is long near so = grind (arith, reaches_is)

-- ---- the dimensions, one by one
