-- Outcomes that agree, or of which one is refused by a fault of how tables lie.
use Rattle.equal_runs.proofs.Imports.{◌≡◌, Bool, true, false, Option, Some, None, Result, Ok, Err, refl, subst, Outcome, ◌>>=◌, refused_if, refused_by, ok_or, CommandFault, is_refused, is_of_layout, Tested, Stop, Fault, Unread, sure}

-- both give things that are related so, or end alike, or one ends by an error of which its test holds
pub data AgreeBy {A E : Type 0} (told others : E → Bool) (R : A → A → Type 0) : Result A E → Result A E → Type 0 where
  go : (x y : A) → R x y → AgreeBy told others R (Ok x) (Ok y)
  fault : (e : E) → AgreeBy told others R (Err e) (Err e)
  first : (e : E) (y : Result A E) → told e ≡ true → AgreeBy told others R (Err e) y
  second : (x : Result A E) (e : E) → others e ≡ true → AgreeBy told others R x (Err e)

-- by a fault of how tables lie
abbrev pub Agree : {A : Type 0} → Bool → Bool → (A → A → Type 0) → Tested A → Tested A → Type 0
Agree m o R x y = AgreeBy (is_of_layout m) (is_of_layout o) R x y

-- a line that needs a file that can't be read is not so ended
abbrev pub is_stop : Bool → Stop → Bool
is_stop m (Fault f) = is_of_layout m f
is_stop m (Unread name) = false

abbrev pub EndAlike : {A : Type 0} → Bool → Bool → (A → A → Type 0) → Outcome A → Outcome A → Type 0
EndAlike m o R x y = AgreeBy (is_stop m) (is_stop o) R x y

-- it gives a thing of which this holds, or is refused by such a fault
pub data Told {A : Type 0} (m : Bool) (P : A → Type 0) : Tested A → Type 0 where
  goes : (x : A) → P x → Told m P (Ok x)
  told : (f : CommandFault) → is_of_layout m f ≡ true → Told m P (Err f)

-- it holds of everything
abbrev pub Any : {A : Type 0} → A → Type 0
Any x = Unit {0}

abbrev pub Both : {A : Type 0} → A → A → Type 0
Both x y = Unit {0}

-- what is made of both agrees, where each error stays one of which its test holds
pub mapped : {A B E F : Type 0} {told others : E → Bool} {told_then others_then : F → Bool} {R : A → A → Type 0} {S : B → B → Type 0} {x y : Result A E} (as_fault : E → F) (f g : Result A E → Result B F)
    → ((e : E) → f (Err e) ≡ Err (as_fault e)) → ((e : E) → g (Err e) ≡ Err (as_fault e)) → ((e : E) → told e ≡ true → told_then (as_fault e) ≡ true)
    → ((e : E) → others e ≡ true → others_then (as_fault e) ≡ true) → AgreeBy told others R x y
    → ((a b : A) → R a b → AgreeBy told_then others_then S (f (Ok a)) (g (Ok b))) → AgreeBy told_then others_then S (f x) (g y)
mapped as_fault f g is also holds holds_also (go a b r) next = next a b r
mapped as_fault f g is also holds holds_also (fault e) next = rw (is e, also e) (fault (as_fault e))
mapped as_fault f g is also holds holds_also (first e z told_is) next = rw (is e) (first (as_fault e) (g z) (holds e told_is))
mapped as_fault f g is also holds holds_also (second z e told_is) next = rw (also e) (second (f z) (as_fault e) (holds_also e told_is))

module _ {E : Type 0} {told others : E → Bool} where
  pub bind : {A B : Type 0} {R : A → A → Type 0} {S : B → B → Type 0} {x y : Result A E} {f g : A → Result B E} → AgreeBy told others R x y
      → ((a b : A) → R a b → AgreeBy told others S (f a) (g b)) → AgreeBy told others S (x >>= f) (y >>= g)
  bind {f = f} {g = g} agree next = mapped (λ e. e) (λ z. z >>= f) (λ z. z >>= g) (λ e. refl) (λ e. refl) (λ e is. is) (λ e is. is) agree next

  -- one thing before both
  pub before : {A B : Type 0} (S : B → B → Type 0) (x : Result A E) (f g : A → Result B E) → ((a : A) → AgreeBy told others S (f a) (g a)) → AgreeBy told others S (x >>= f) (x >>= g)
  before S (Ok a) f g next = next a
  before S (Err e) f g next = fault e

  -- one thing alone
  pub alone : {A : Type 0} (R : A → A → Type 0) (x : Result A E) → ((a : A) → R a a) → AgreeBy told others R x x
  alone R (Ok a) r = go a a (r a)
  alone R (Err e) r = fault e

  -- by less of what they go to
  pub weaker : {A : Type 0} (R S : A → A → Type 0) (x y : Result A E) → AgreeBy told others R x y → ((a b : A) → R a b → S a b) → AgreeBy told others S x y
  weaker R S x y agree so = mapped (λ e. e) (λ z. z) (λ z. z) (λ e. refl) (λ e. refl) (λ e is. is) (λ e is. is) agree (λ a b r. go a b (so a b r))

module _ {m o : Bool} where
  -- what reads no file
  pub surely : {A : Type 0} (R : A → A → Type 0) (x y : Tested A) → Agree m o R x y → EndAlike m o R (sure x) (sure y)
  surely R x y agree = mapped Fault sure sure (λ e. refl) (λ e. refl) (λ e is. is) (λ e is. is) agree (λ a b r. go a b r)

  -- two things of which each is refused by such a fault, if at all
  pub both_told : {A : Type 0} {P Q : A → Type 0} {R : A → A → Type 0} {x y : Tested A} → Told m P x → Told o Q y → ((a b : A) → P a → Q b → R a b) → Agree m o R x y
  both_told {y = y} (told f is) other next = first f y is
  both_told (goes a p) (goes b q) next = go a b (next a b p q)
  both_told (goes a p) (told f is) next = second (Ok a) f is

module _ (m : Bool) where
  pub told_bind : {A B : Type 0} (P : A → Type 0) (Q : B → Type 0) (x : Tested A) (f : A → Tested B) → Told m P x → ((a : A) → P a → Told m Q (f a)) → Told m Q (x >>= f)
  told_bind P Q x f (goes a p) next = next a p
  told_bind P Q x f (told e is) next = told e is

  pub told_if : (test : Bool) (f : CommandFault) → is_of_layout m f ≡ true → Told m Any (refused_if test f)
  told_if true f is = told f is
  told_if false f is = goes tt tt

  pub told_by : {E : Type 0} (as_fault : E → CommandFault) (cause : Option E) → ((e : E) → is_of_layout m (as_fault e) ≡ true) → Told m Any (refused_by as_fault cause)
  told_by as_fault None is = goes tt tt
  told_by as_fault (Some e) is = told (as_fault e) (is e)

  pub told_ok : {A E : Type 0} (as_fault : E → CommandFault) (answer : Result A E) → ((e : E) → is_of_layout m (as_fault e) ≡ true) → Told m Any (ok_or as_fault answer)
  told_ok as_fault (Ok x) is = goes x tt
  told_ok as_fault (Err e) is = told (as_fault e) (is e)

-- where a name is missed, a refusal is one of a name
pub told_misses : {A : Type 0} (m : Bool) (P : A → Type 0) (x : Tested A) → Told true P x → is_refused x ≡ m → Told m P x
told_misses m P x (goes a p) is = goes a p
told_misses m P x (told f of) is = told f (subst (λ (b : Bool). is_of_layout b f ≡ true) is of)
