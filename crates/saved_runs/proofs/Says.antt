-- Tokens that are spelled, behind some brackets, and what a phrase of them says of the tokens of its value.
use Rattle.saved_runs.proofs.Imports.{◌≡◌, ℕ, List, [], ◌∷◌, ◌++◌, Option, None, map, Grammar, Is, item, Splits, brackets_after, AreSpelled, SignName, Token, Sign, written, IsSpelled, Each, arith}
use Rattle.saved_runs.proofs.Told.{Told, Keeps, keeps_item}

abbrev pub Stand : List Token → Type 0
Stand xs = (brackets : ℕ) × AreSpelled brackets (map written xs)

pub each_spelled : (brackets : ℕ) (xs : List Token) → AreSpelled brackets (map written xs) → Each IsSpelled xs
each_spelled brackets [] h = tt
each_spelled brackets (token ∷ xs) h = (h.0, each_spelled (brackets_after (written token).kind brackets) xs h.2)

-- the front and the back of spelled tokens, which stands behind some brackets
spelled_parts : (brackets : ℕ) (front back : List Token) → AreSpelled brackets (map written (front ++ back)) → AreSpelled brackets (map written front) × Stand back
spelled_parts brackets [] back h = (tt, (brackets, h))
spelled_parts brackets (token ∷ front) back h = grind (arith, (spelled_parts (brackets_after (written token).kind brackets) front back h.2))

pub stand_splits : Splits Stand
stand_splits = record {
  front = λ front back h. (h.0, (spelled_parts h.0 front back h.1).0);
  back = λ front back h. (spelled_parts h.0 front back h.1).1;
}

-- such tokens of a phrase that opens few brackets tell its value
pub kept_told : {A : Type 0} {one : Grammar Token A} (k : ℕ) → Keeps k one → (xs : List Token) (v : A) → Is one xs v → Stand xs → Told k one v
kept_told k keeps xs v is stands = record { tokens = xs; is = is; fits = keeps.at xs v is (each_spelled stands.0 xs stands.1) }

pub item_told : {A : Type 0} (value : Token → Option A) → ((sign : SignName) → value (Sign sign) ≡ None) → (xs : List Token) (v : A) → Is (item value) xs v → Stand xs → Told 0 (item value) v
item_told value plain = kept_told 0 (keeps_item 0 value plain)
