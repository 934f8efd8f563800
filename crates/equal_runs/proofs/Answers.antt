-- Answers to stores by two holds: both keep a number, the same where both have room for all bits, or one of them says that the value is not held.
use Rattle.equal_runs.proofs.Imports.{◌≡◌, Bool, true, false, ℤ, Option, Some, None, Result, Ok, Err, refl, if◌then◌else◌, LeafType, least_of, greatest_of, least_in, greatest_in, Hold, kept, StoreMode, Strict, Wrap, store_answer, kept_or, is_between, StoreFault, Range, Narrow, refused_by, ok_or, CommandFault, is_of_layout}
use Rattle.equal_runs.proofs.Agreeing.{Agree, go, fault, Both, AgreeBy, first, second}

-- both answers are things, one thing where `Alike` holds, or both are one error, or one is an error of which the test holds
abbrev pub Answers : {A E : Type 0} → (E → Bool) → Type 0 → Result A E → Result A E → Type 0
Answers told Alike x y = AgreeBy told told (λ a b. Alike → b ≡ a) x y

-- one answer beside itself
pub equal : {A E : Type 0} {told : E → Bool} {Alike : Type 0} (x : Result A E) → Answers told Alike x x
equal (Ok x) = go x x (λ alike. refl)
equal (Err e) = fault e

-- the same of causes
pub data Causes {E : Type 0} (told : E → Bool) : Option E → Option E → Type 0 where
  same : (x : Option E) → Causes told x x
  one : (e : E) (y : Option E) → told e ≡ true → Causes told (Some e) y
  other : (x : Option E) (e : E) → told e ≡ true → Causes told x (Some e)

abbrev pub is_narrow : StoreFault → Bool
is_narrow Range = false
is_narrow Narrow = true

-- the answer for a value by the test of the hold, and by those of the type and of the hold
abbrev by_hold : ℤ → Bool → Result ℤ StoreFault
by_hold value held = if held then Ok value else Err Narrow

abbrev by_tests : ℤ → Bool → Bool → Result ℤ StoreFault
by_tests value declared held = if declared then by_hold value held else Err Range

-- what a store answers, by the hold: `Range` depends on the type alone
pub store_answers : {Alike : Type 0} (mode : StoreMode) (kind : LeafType) (hold held : Hold) (value : ℤ)
    → (Alike → kept_or value (store_answer mode kind held value) ≡ kept_or value (store_answer mode kind hold value))
    → Answers is_narrow Alike (store_answer mode kind hold value) (store_answer mode kind held value)
store_answers Wrap kind hold held value alike = go (kept kind hold value) (kept kind held value) alike
store_answers {Alike} Strict kind hold held value alike =
    of_tests (is_between (least_of kind) (greatest_of kind) value) (is_between (least_in hold.signed hold.width) (greatest_in hold.signed hold.width) value)
    (is_between (least_in held.signed held.width) (greatest_in held.signed held.width) value)
  where
    of_tests : (d h k : Bool) → Answers is_narrow Alike (by_tests value d h) (by_tests value d k)
    of_tests false h k = fault Range
    of_tests true true true = go value value (λ alike. refl)
    of_tests true true false = second (Ok value) Narrow refl
    of_tests true false k = first Narrow (by_hold value k) refl

-- two answers that are things, one thing where `Alike` holds
pub record Given {A E : Type 0} (Alike : Type 0) (x y : Result A E) (a b : A) : Type 0 where
  pub same : Alike → b ≡ a
  pub first : x ≡ Ok a
  pub second : y ≡ Ok b

-- from answers to outcomes
pub ok_agree : {A E : Type 0} {Alike : Type 0} (m o : Bool) (told : E → Bool) (f : E → CommandFault) (x y : Result A E) → ((n : Bool) (e : E) → told e ≡ true → is_of_layout n (f e) ≡ true)
    → Answers told Alike x y → Agree m o (Given Alike x y) (ok_or f x) (ok_or f y)
ok_agree m o told f x y is (go a b alike) = go a b (record { same = alike; first = refl; second = refl })
ok_agree m o told f x y is (fault e) = fault (f e)
ok_agree m o told f x y is (first e z t) = first (f e) (ok_or f z) (is m e t)
ok_agree m o told f x y is (second z e t) = second (ok_or f z) (f e) (is o e t)

pub by_agree : {E : Type 0} (m o : Bool) (told : E → Bool) (f : E → CommandFault) (x y : Option E) → ((n : Bool) (e : E) → told e ≡ true → is_of_layout n (f e) ≡ true) → Causes told x y
    → Agree m o Both (refused_by f x) (refused_by f y)
by_agree m o told f x y is (same None) = go tt tt tt
by_agree m o told f x y is (same (Some e)) = fault (f e)
by_agree m o told f x y is (one e z t) = first (f e) (refused_by f z) (is m e t)
by_agree m o told f x y is (other z e t) = second (refused_by f z) (f e) (is o e t)
