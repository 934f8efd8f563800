-- Spelled tokens that are a phrase, put together as the phrases are.
use Rattle.saved_runs.proofs.Imports.{◌≡◌, ℕ, zero, suc, ◌+◌, ◌≤◌, true, false, List, [], ◌∷◌, ◌++◌, Option, Some, None, inl, inr, refl, arith, Chain, Grammar, Is, item, behind_token, joined, either, which, nothing, repeats, deep, more, opens, closes, SignName, Comma, Token, Sign, later, listed, IsSpelled, Each, each_front, each_back, Fits, no_tokens_fit, fits_more, fits_append, fits_flat, fits_inside, one_fits}

-- some spelled tokens are a phrase with this value: they close all brackets that they open, and have at most k of them open at once
pub record Told {A : Type 0} (k : ℕ) (one : Grammar Token A) (v : A) : Type 0 where
  pub tokens : List Token
  pub is : Is one tokens v
  pub fits : Fits k tokens

pub told_more : {A : Type 0} {one : Grammar Token A} {v : A} (k m : ℕ) → k ≤ m → Told k one v → Told m one v
told_more k m less t = record { tokens = t.tokens; is = t.is; fits = fits_more k m t.tokens less t.fits }

pub told_nothing : {A : Type 0} (k : ℕ) (v : A) → Told k (nothing v) v
told_nothing k v = record { tokens = []; is = (refl, refl); fits = fits_more 0 k [] (omega arith) no_tokens_fit }

pub told_item : {A : Type 0} (k : ℕ) (value : Token → Option A) (token : Token) (v : A) → value token ≡ Some v → Fits 0 (token ∷ []) → Told k (item value) v
told_item k value token v is fits = record { tokens = token ∷ []; is = (token, refl, is); fits = fits_more 0 k (token ∷ []) (omega arith) fits }

-- a token that stands for itself
pub told_behind : {A : Type 0} {one : Grammar Token A} {v : A} (k : ℕ) (token : Token) → ((xs : List Token) → Fits k xs → Fits k (token ∷ xs)) → Told k one v → Told k (behind_token token one) v
told_behind k token more t = record { tokens = token ∷ t.tokens; is = (refl, t.is); fits = more t.tokens t.fits }

pub told_joined : {A B : Type 0} {one : Grammar Token A} {next : A → Grammar Token B} {a : A} {b : B} (k : ℕ) → Told k one a → Told k (next a) b → Told k (joined one next) b
told_joined {a = a} k one two = record {
  tokens = one.tokens ++ two.tokens;
  is = record { first = a; front = one.tokens; back = two.tokens; whole = refl; begins = one.is; ends = two.is };
  fits = fits_append k one.tokens two.tokens one.fits two.fits;
}

pub told_deep : {A : Type 0} {of : ℕ → Grammar Token A} {v : A} (k n : ℕ) → Told k (of n) v → Told k (deep of) v
told_deep k n t = record { tokens = t.tokens; is = (n, t.is); fits = t.fits }

-- no step more, and one step and those behind it
pub told_end : {A : Type 0} {step : A → Grammar Token A} (k : ℕ) (v : A) → Told k (repeats step v) v
told_end k v = record { tokens = []; is = (zero, (refl, refl)); fits = fits_more 0 k [] (omega arith) no_tokens_fit }

pub told_step : {A : Type 0} {step : A → Grammar Token A} {a b c : A} (k : ℕ) → Told k (step a) b → Told k (repeats step b) c → Told k (repeats step a) c
told_step {b = b} k one more = record {
  tokens = one.tokens ++ more.tokens;
  is = (suc more.is.0, record { first = b; front = one.tokens; back = more.tokens; whole = refl; begins = one.is; ends = more.is.1 });
  fits = fits_append k one.tokens more.tokens one.fits more.fits;
}

pub told_first : {A : Type 0} {one other : Grammar Token A} {v : A} (k : ℕ) → Told k one v → Told k (either one other) v
told_first k t = record { tokens = t.tokens; is = inl t.is; fits = t.fits }

pub told_second : {A : Type 0} {one other : Grammar Token A} {v : A} (k : ℕ) → Told k other v → Told k (either one other) v
told_second k t = record { tokens = t.tokens; is = inr t.is; fits = t.fits }

-- a phrase in brackets, and the value that stands for it
abbrev pub inside : {A B : Type 0} → SignName → SignName → Grammar Token A → (A → B) → Grammar Token B
inside opening closing one value = behind_token (Sign opening) (joined one (λ v. behind_token (Sign closing) (nothing (value v))))

pub told_inside : {A : Type 0} {one : Grammar Token A} {v : A} (k : ℕ) (opening closing : SignName) → opens opening ≡ true → opens closing ≡ false → closes closing ≡ true → Told k one v
    → Told (k + 1) (inside opening closing one (λ w. w)) v
told_inside {v = v} k opening closing o p c t = record {
  tokens = Sign opening ∷ (t.tokens ++ Sign closing ∷ []);
  is = (refl, record { first = v; front = t.tokens; back = Sign closing ∷ []; whole = refl; begins = t.is; ends = (refl, (refl, refl)) });
  fits = fits_inside k opening closing t.tokens o p c t.fits;
}

-- the same the other way: spelled tokens that are a phrase open few brackets
pub record Keeps {A : Type 0} (k : ℕ) (one : Grammar Token A) : Type 0 where
  pub at : (xs : List Token) (v : A) → Is one xs v → Each IsSpelled xs → Fits k xs

pub keeps_nothing : {A : Type 0} (k : ℕ) (value : A) → Keeps k (nothing value)
keeps_nothing k value = record { at = λ xs v is spelled. rw is.0 (fits_more 0 k [] (omega arith) no_tokens_fit) }

-- an item that is no sign
item_fits : {A : Type 0} (value : Token → Option A) (token : Token) (v : A) → ((sign : SignName) → value (Sign sign) ≡ None) → value token ≡ Some v → IsSpelled token → Fits 0 (token ∷ [])
item_fits value token v plain is spelled = grind (arith, one_fits)

pub keeps_item : {A : Type 0} (k : ℕ) (value : Token → Option A) → ((sign : SignName) → value (Sign sign) ≡ None) → Keeps k (item value)
keeps_item k value plain = grind (arith, fits_more, item_fits)

pub keeps_behind : {A : Type 0} {one : Grammar Token A} (k : ℕ) (token : Token) → ((xs : List Token) → Fits k xs → Fits k (token ∷ xs)) → Keeps k one → Keeps k (behind_token token one)
keeps_behind {A = A} {one = phrase} k token more one = record { at = λ xs v is spelled. behind_at xs v is spelled }
  where
    behind_at : (xs : List Token) (v : A) → Is (behind_token token phrase) xs v → Each IsSpelled xs → Fits k xs
    behind_at [] v is spelled = absurd is
    behind_at (first ∷ xs) v is spelled = rw is.0 (more xs (one.at xs v is.1 spelled.1))

pub keeps_joined : {A B : Type 0} {one : Grammar Token A} {next : A → Grammar Token B} (k : ℕ) → Keeps k one → ((a : A) → Keeps k (next a)) → Keeps k (joined one next)
keeps_joined k one two = grind (arith, each_front, each_back, fits_append)

pub keeps_either : {A : Type 0} {one other : Grammar Token A} (k : ℕ) → Keeps k one → Keeps k other → Keeps k (either one other)
keeps_either k one two = record { at = λ xs v is spelled. elim is [ inl i ↦ one.at xs v i spelled | inr i ↦ two.at xs v i spelled ] }

pub keeps_which : {A : Type 0} {one other : Grammar Token A} (k : ℕ) → Keeps k one → Keeps k (which true one other)
keeps_which k keeps = record { at = keeps.at }

pub keeps_repeats : {A : Type 0} {step : A → Grammar Token A} (k : ℕ) → ((a : A) → Keeps k (step a)) → (a : A) → Keeps k (repeats step a)
keeps_repeats {A = A} {step = phrase} k step a = record { at = λ xs v is spelled. chain_keeps is.0 a xs v is.1 spelled }
  where
    chain_keeps : (n : ℕ) (a : A) (xs : List Token) (v : A) → Chain (λ b. Is (phrase b)) n a xs v → Each IsSpelled xs → Fits k xs
    chain_keeps zero a xs v is spelled = (keeps_nothing k a).at xs v is spelled
    chain_keeps (suc n) a xs v is spelled =
        let all : Each IsSpelled (is.front ++ is.back) = rw is.whole at spelled in
        let front = (step a).at is.front is.first is.begins (each_front IsSpelled is.front is.back all) in
        let back = chain_keeps n is.first is.back v is.ends (each_back IsSpelled is.front is.back all) in
        rw is.whole (fits_append k is.front is.back front back)

pub keeps_each : {A : Type 0} {one : Grammar Token A} (k : ℕ) → Keeps k one → (found : List A) → Keeps k (repeats (more one) found)
keeps_each k one found = keeps_repeats k (λ before. keeps_joined k one (λ next. keeps_nothing k (before ++ next ∷ []))) found

pub keeps_inside : {A B : Type 0} {one : Grammar Token A} (k : ℕ) (opening closing : SignName) (value : A → B) → opens opening ≡ true → opens closing ≡ false → closes closing ≡ true → Keeps k one
    → Keeps (k + 1) (inside opening closing one value)
keeps_inside {A = A} {B = B} {one = phrase} k opening closing value o p c one = record { at = λ xs v is spelled. inside_at xs v is spelled }
  where
    alone : (w v : B) (xs : List Token) → Is (behind_token (Sign closing) (nothing w)) xs v → xs ≡ Sign closing ∷ []
    alone w v [] is = absurd is
    alone w v (first ∷ xs) is = rw (is.0, is.1.0) refl

    inside_at : (xs : List Token) (v : B) → Is (inside opening closing phrase value) xs v → Each IsSpelled xs → Fits (k + 1) xs
    inside_at xs v is spelled = grind (arith, each_front, fits_inside)

-- phrases with commas between them
pub keeps_listed : {A : Type 0} {one : Grammar Token A} (k : ℕ) → Keeps k one → Keeps k (listed one)
unfolding listed later
keeps_listed k one = keeps_joined k one (λ first. keeps_each k (keeps_behind k (Sign Comma) (λ xs f. fits_flat k (Sign Comma) xs refl refl f) one) (first ∷ []))
