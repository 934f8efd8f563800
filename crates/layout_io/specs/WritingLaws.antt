-- Laws of texts that are written one after another.
use Rattle.std.specs.Prelude.{◌≡◌, ℕ, suc, ◌+◌, ◌<◌, List, [], ◌∷◌, ◌++◌, length, take, drop, Option, Result, Ok, Err, IsErr, flat_map, get_or}
use Rattle.std.proofs.Common.{refl, sym, ap, subst, ◌∙◌, arith, length-append, append_assoc}
use Rattle.std.proofs.lemmas.List.{append-nil, take-append-le, take_more, take-append-drop}
use Rattle.std.proofs.lemmas.List.Concat.{flat_map-append}
use Rattle.layout_io.specs.Writing.{with_bytes, Wrote, Stopped, Writes}

-- nothing more
pub with_bytes-nil : (held : Option (List ℕ)) → with_bytes held [] ≡ held
with_bytes-nil held = grind (arith, append-nil)

-- one text after another is one text
pub with_bytes-append : (held : Option (List ℕ)) (a b : List ℕ) → with_bytes (with_bytes held a) b ≡ with_bytes held (a ++ b)
with_bytes-append held a b = grind (arith, append_assoc)

-- a count past the first text goes on in the second
pub take_past : (a b : List ℕ) (n : ℕ) → take (length a + n) (a ++ b) ≡ a ++ take n b
take_past [] b n = let e : length {A = ℕ} [] + n ≡ n = omega arith in rw e
take_past (x ∷ a) b n = let e : suc (length a) + n ≡ suc (length a + n) = omega arith in rw e (ap (λ xs. x ∷ xs) (take_past a b n))

-- the text of the first items and then of one more is the text of one item more
pub flat_map_push : {X : Type 0} (f : X → List ℕ) (xs : List X) (i : ℕ) (d : X) → i < length xs → flat_map f (take i xs) ++ f (get_or xs i d) ≡ flat_map f (take (i + 1) xs)
flat_map_push f xs i d small =
    ap (λ last. flat_map f (take i xs) ++ last) (sym (append-nil (f (get_or xs i d)))) ∙ sym (flat_map-append f (take i xs) (get_or xs i d ∷ [])) ∙ ap (flat_map f) (sym (take_more xs i d small))

-- and then of the rest: the text of all items
pub flat_map_split : {X : Type 0} (f : X → List ℕ) (xs : List X) (i : ℕ) (d : X) → i < length xs → (flat_map f (take i xs) ++ f (get_or xs i d)) ++ flat_map f (drop (i + 1) xs) ≡ flat_map f xs
flat_map_split f xs i d small =
    ap (λ front. front ++ flat_map f (drop (i + 1) xs)) (flat_map_push f xs i d small) ∙ sym (flat_map-append f (take (i + 1) xs) (drop (i + 1) xs)) ∙ ap (flat_map f) (take-append-drop (i + 1) xs)

-- nothing was written
pub Wrote-nil : {K : Type 0} (taken : K → Option (List ℕ)) (faults : K → ℕ) (old : K) → Wrote taken faults old old []
Wrote-nil taken faults old = record { bytes = sym (with_bytes-nil (taken old)); unfailed = refl }

-- one text after another
pub Wrote-append : {K : Type 0} {taken : K → Option (List ℕ)} {faults : K → ℕ} {old mid new : K} {a b : List ℕ} → Wrote taken faults old mid a → Wrote taken faults mid new b
    → Wrote taken faults old new (a ++ b)
Wrote-append {taken} {old} {a} {b} first second = grind (arith, with_bytes-append)

-- a stop in the first of two texts is a stop in both together
pub Stopped-first : {K : Type 0} {taken : K → Option (List ℕ)} {faults : K → ℕ} {old new : K} {a : List ℕ} (b : List ℕ) → Stopped taken faults old new a → Stopped taken faults old new (a ++ b)
Stopped-first {taken} {old} {a} b stop = grind (arith, length-append, take-append-le)

-- a stop in the second of two texts, after the first was written, is a stop in both together
pub Stopped-second : {K : Type 0} {taken : K → Option (List ℕ)} {faults : K → ℕ} {old mid new : K} {a b : List ℕ} → Wrote taken faults old mid a → Stopped taken faults mid new b
    → Stopped taken faults old new (a ++ b)
Stopped-second {taken} {old} {a} {b} first stop = record {
  count = length a + stop.count;
  proper = omega (arith, length-append a b);
  bytes = stop.bytes ∙ ap (λ held. with_bytes held (take stop.count b)) first.bytes ∙ with_bytes-append (taken old) a (take stop.count b)
      ∙ ap (λ text. with_bytes (taken old) text) (sym (take_past a b stop.count));
  rose = rw first.unfailed at stop.rose;
}

-- a stop in a front of a text is a stop in the text
pub Stopped-front : {K : Type 0} {taken : K → Option (List ℕ)} {faults : K → ℕ} {old new : K} {a : List ℕ} (b text : List ℕ) → a ++ b ≡ text → Stopped taken faults old new a
    → Stopped taken faults old new text
Stopped-front {taken} {faults} {old} {new} b text whole stop = subst (λ t. Stopped taken faults old new t) whole (Stopped-first b stop)

-- a text that was written, and then the last one
pub Writes-last : {K T E : Type 0} {taken : K → Option (List ℕ)} {faults : K → ℕ} {old mid : K} {a : List ℕ} (new : K) (result : Result T E) (b : List ℕ) → Wrote taken faults old mid a
    → Writes taken faults mid new result b → Writes taken faults old new result (a ++ b)
Writes-last new (Ok value) b first last = Wrote-append first last
Writes-last new (Err error) b first last = Stopped-second first last

-- what is left where a function gives up
pub Writes-err : {K T E : Type 0} {taken : K → Option (List ℕ)} {faults : K → ℕ} {old new : K} {text : List ℕ} (result : Result T E) → IsErr result → Stopped taken faults old new text
    → Writes taken faults old new result text
Writes-err result err stop = grind arith

-- a stop in the text of the first items and of one more is a stop in the text of all items
pub Stopped-flat_map : {K X : Type 0} {taken : K → Option (List ℕ)} {faults : K → ℕ} {first new : K} (f : X → List ℕ) (xs : List X) (i : ℕ) (d : X) → i < length xs
    → Stopped taken faults first new (flat_map f (take i xs) ++ f (get_or xs i d)) → Stopped taken faults first new (flat_map f xs)
Stopped-flat_map f xs i d small stop = Stopped-front (flat_map f (drop (i + 1) xs)) _ (flat_map_split f xs i d small) stop
