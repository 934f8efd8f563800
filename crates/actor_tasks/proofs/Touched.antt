-- The bytes that the pieces of a leaf in a row touch are those that hold a bit of it, so the first of the ones is the first of the others.
use Rattle.actor_tasks.proofs.Imports.{◌≡◌, ℕ, ◌<◌, ◌≤◌, Bool, true, false, List, [], ◌∷◌, length, filter, get_or, Option, Some, None, refl, sym, ap, ◌∙◌, ⊎_elim, inl, inr, arith, ◌⊎◌, IfSome, ◌&&◌, ◌||◌, not, nat_lt, if◌then◌else◌, true≢false, cases_Bool, cases_lt, and_from, and_parts, or_left, or_right, eq-eqb, lt-ltb, nat_tests, Piece, Owner, IsLaidOut, IsLocated, within, within_blobs, is_in_granule, is_touched, hot_place, in_granule, touched_hot, Place, IsByte, all_bytes, is_before, ComesFrom, byte_holds_bit, IsHead, Touches, AnyTouches, IsNext, occurs-all, places_from-first, not-true}

-- a byte is a granule of one byte
any-touched : (pieces : List Piece) (place : Place) → AnyTouches pieces place → is_touched 1 pieces place.blob place.byte ≡ true
any-touched [] place any = absurd any
any-touched (piece ∷ pieces) place any =
    ⊎_elim (λ (t : Touches piece place). grind (arith, or_left, and_from, nat_lt, eq-eqb, lt-ltb))
    (λ (rest : AnyTouches pieces place). or_right (is_in_granule 1 place.blob place.byte piece) (is_touched 1 pieces place.blob place.byte) (any-touched pieces place rest)) any

touched-any : (pieces : List Piece) (place : Place) → is_touched 1 pieces place.blob place.byte ≡ true → AnyTouches pieces place
touched-any [] place e = absurd (true≢false (sym e))
touched-any (piece ∷ pieces) place e =
    ⊎_elim (λ (yes : is_in_granule 1 place.blob place.byte piece ≡ true).
    (let here = in_granule 1 place.blob place.byte piece yes in inl (record { blob = here.0; low = omega arith; high = omega arith; some = omega arith })))
    (λ (no : is_in_granule 1 place.blob place.byte piece ≡ false). inr (touched-any pieces place (ap (λ (t : Bool). t || is_touched 1 pieces place.blob place.byte) (sym no) ∙ e)))
    (cases_Bool (is_in_granule 1 place.blob place.byte piece))

-- what does not stand before a byte comes from it on
comes : (from place : Place) → is_before place from ≡ false → ComesFrom from place
comes from place e =
    ⊎_elim (λ (l : from.blob < place.blob). inl l)
    (λ (l : place.blob ≤ from.blob). inr (same from place l e, late from place l e))
    (cases_lt from.blob place.blob) where
      same : (from place : Place) → place.blob ≤ from.blob → is_before place from ≡ false → from.blob ≡ place.blob
      same from place l e = grind (arith, nat_tests)

      late : (from place : Place) → place.blob ≤ from.blob → is_before place from ≡ false → from.byte ≤ place.byte
      late from place l e = grind (arith, nat_tests)

comes-not : (from place : Place) → ComesFrom from place → is_before place from ≡ false
comes-not from place order = grind (arith, nat_tests)

same_or_before : (one two : Place) → ComesFrom one two → (two ≡ one) ⊎ (is_before one two ≡ true)
same_or_before one two order = by_test (is_before one two) refl where
  by_test : (t : Bool) → is_before one two ≡ t → (two ≡ one) ⊎ (t ≡ true)
  by_test true e = inr refl
  by_test false e =
      inl (ap (λ (b : ℕ). record { blob = b; byte = two.byte }) (blob one two order e) ∙ ap (λ (i : ℕ). record { blob = one.blob; byte = i }) (byte one two order e)) where
        blob : (one two : Place) → ComesFrom one two → is_before one two ≡ false → two.blob ≡ one.blob
        blob one two order e = grind (arith, nat_tests)

        byte : (one two : Place) → ComesFrom one two → is_before one two ≡ false → two.byte ≡ one.byte
        byte one two order e = grind (arith, nat_tests)

-- nothing is picked where nothing meets the test
no_filter : (test : Place → Bool) (xs : List Place) → ((x : Place) → test x ≡ true → ⊥) → filter test xs ≡ []
no_filter test [] none = refl
no_filter test (x ∷ xs) none = by_test (test x) refl (no_filter test xs none) where
  by_test : (t : Bool) → test x ≡ t → filter test xs ≡ [] → (if t then x ∷ filter test xs else filter test xs) ≡ []
  by_test true e rest = absurd (none x e)
  by_test false e rest = rest

module _ (layout : List (List Owner)) (slots : ℕ) (widths : List ℕ) (laid : IsLaidOut layout slots widths) (row leaf : ℕ) (pieces : List Piece)
    (located : IsLocated layout row leaf (get_or widths leaf 0) pieces) where
  touches-hold : (place : Place) → AnyTouches pieces place → byte_holds_bit layout row leaf place ≡ true
  touches-hold place any = sym (touched_hot laid located 1 place.blob place.byte) ∙ any-touched pieces place any

  holds-touch : (place : Place) → byte_holds_bit layout row leaf place ≡ true → AnyTouches pieces place
  holds-touch place holds = touched-any pieces place (touched_hot laid located 1 place.blob place.byte ∙ holds)

  -- such a byte is one of the layout
  pub is_byte : (place : Place) → byte_holds_bit layout row leaf place ≡ true → IsByte layout place
  is_byte place holds =
      let bit = hot_place layout 1 row leaf place.blob place.byte holds in
      let blob_in : place.blob < length layout = within_blobs layout place.blob bit.bit row leaf bit.number bit.owner in
      let inside : bit.bit < length (get_or layout place.blob []) = within (get_or layout place.blob []) bit.bit row leaf bit.number bit.owner in
      let whole = laid.whole_bytes place.blob [] blob_in in
      record { blob_in = blob_in; byte_in = omega (arith, bit.from, bit.below) }

  -- what the code finds is the head of the list
  pub head_found : (from : Place) (result : Option Place) → IsNext (AnyTouches pieces) from result → IsHead layout row leaf from result
  head_found from None none =
      no_filter (λ place. byte_holds_bit layout row leaf place && not (is_before place from)) (all_bytes layout)
      (λ place e.
      (let both = and_parts (byte_holds_bit layout row leaf place) (not (is_before place from)) e in
      none place (holds-touch place both.0) (comes from place (not-true (is_before place from) both.1))))
  head_found from (Some place) found =
      places_from-first layout row leaf from place (occurs-all layout place (is_byte place (touches-hold place found.meets))) (touches-hold place found.meets) (comes-not from place found.behind)
      (λ y e.
      (let both = and_parts (byte_holds_bit layout row leaf y) (not (is_before y from)) e in
      same_or_before place y (found.first y (holds-touch y both.0) (comes from y (not-true (is_before y from) both.1)))))

  -- and one of the layout
  pub found_inside : (from : Place) (result : Option Place) → IsNext (AnyTouches pieces) from result → IfSome result (IsByte layout)
  found_inside from result h2 = grind (arith, is_byte, touches-hold)
