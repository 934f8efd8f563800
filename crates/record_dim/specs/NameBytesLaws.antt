-- The bytes of a name: they are ASCII, and padding them gives the fields back.
use Rattle.std.specs.Prelude.{◌≡◌, ℕ, suc, zero, ◌-◌, ◌<◌, ◌≤◌, Bool, true, ◌&&◌, nat_eq, List, [], ◌∷◌, ◌++◌, length, get_or, drop, replicate, refl}
use Rattle.record_dim.specs.Std.{arith, drop-replicate, length-append, length-drop, take-append_seam, nat_tests, eqb-true, eq-eqb, pointwise, list_all, IsUtf8, IsUtf8-from_ascii}
use Rattle.record_dim.specs.Names.{begins_name, continues_name, is_word, is_name, StoresName}

pub both : (a b : Bool) → (a && b) ≡ true → (a ≡ true) × (b ≡ true)
both a b e = grind arith

begins_low : (byte : ℕ) → begins_name byte ≡ true → byte < 128
begins_low byte h = grind (arith, nat_tests)

continues_low : (byte : ℕ) → continues_name byte ≡ true → byte < 128
continues_low byte h = grind (arith, nat_tests)

all_low : (text : List ℕ) → list_all continues_name text ≡ true → (i : ℕ) → get_or text i 0 < 128
all_low [] h i = omega arith
all_low (byte ∷ text) h zero = continues_low byte (both _ _ h).0
all_low (byte ∷ text) h (suc i) = all_low text (both _ _ h).1 i

word_low : (text : List ℕ) → is_word text ≡ true → (i : ℕ) → get_or text i 0 < 128
word_low text h i = grind (arith, begins_low, both, all_low)

-- the bytes of a name are a text
pub name_utf8 : (text : List ℕ) → is_name text ≡ true → IsUtf8 text
name_utf8 text h = IsUtf8-from_ascii text (word_low text (both _ _ h).1)

pub word_at : (text : List ℕ) → 1 ≤ length text → is_word text ≡ (begins_name (get_or text 0 0) && list_all continues_name (drop 1 text))
word_at text h = grind arith

-- what `Name::new` makes
pub stored : (text : List ℕ) → length text ≤ 32 → is_word text ≡ true → StoresName (text ++ drop (length text) (replicate 32 0)) (length text)
stored text small word =
    let cut = take-append_seam text (drop (length text) (replicate 32 0)) in
    let pads : drop (length text) (replicate {A = ℕ} 32 0) ≡ replicate {A = ℕ} (32 - length text) 0 = drop-replicate (length text) 32 0 in
    grind (arith, length-append, length-drop)

-- texts that compare equal are one
pub same_text : (xs ys : List ℕ) → pointwise nat_eq xs ys ≡ true → xs ≡ ys
same_text [] [] h = refl
same_text [] (y ∷ ys) h = cc
same_text (x ∷ xs) [] h = cc
same_text (x ∷ xs) (y ∷ ys) h =
    let head : x ≡ y = eqb-true x y (both _ _ h).0 in
    let tail : xs ≡ ys = same_text xs ys (both _ _ h).1 in
    cc

pub text_self : (xs : List ℕ) → pointwise nat_eq xs xs ≡ true
text_self [] = refl
text_self (x ∷ xs) = rw (eq-eqb x x refl) (text_self xs)
