-- A phrase of composed phrases is one of wider phrases composed alike.
use Rattle.std.specs.Prelude.{ℕ, zero, suc, List}
use Rattle.line_grammar.specs.Phrases.{Behind, Joined, IsEither, Chain, Repeats}
use Rattle.record_dim.specs.Std.{arith}

abbrev pub Wider : {T A : Type 0} → (List T → A → Type 0) → (List T → A → Type 0) → Type 0
Wider {T = T} {A = A} Is IsAlso = (xs : List T) (v : A) → Is xs v → IsAlso xs v

pub joined_wider : {T A B : Type 0} {Is IsAlso : List T → A → Type 0} {Next NextAlso : A → List T → B → Type 0} → Wider Is IsAlso → ((a : A) → Wider (Next a) (NextAlso a))
    → Wider (Joined Is Next) (Joined IsAlso NextAlso)
joined_wider one two xs v h = grind arith

pub behind_wider : {T A : Type 0} (token : T) {Is IsAlso : List T → A → Type 0} → Wider Is IsAlso → Wider (Behind token Is) (Behind token IsAlso)
behind_wider token one h2 v h = grind arith

pub either_wider : {T A : Type 0} {Is IsAlso IsOther IsOtherAlso : List T → A → Type 0} → Wider Is IsAlso → Wider IsOther IsOtherAlso → Wider (IsEither Is IsOther) (IsEither IsAlso IsOtherAlso)
either_wider one two xs v h4 = grind arith

chain_wider : {T A : Type 0} {Step StepAlso : A → List T → A → Type 0} → ((a : A) → Wider (Step a) (StepAlso a)) → (n : ℕ) (a : A) → Wider (Chain Step n a) (Chain StepAlso n a)
chain_wider one zero a xs v h = h
chain_wider one (suc n) a xs v h = grind (arith, (chain_wider one n h.first h.back v h.ends))

pub repeats_wider : {T A : Type 0} {Step StepAlso : A → List T → A → Type 0} → ((a : A) → Wider (Step a) (StepAlso a)) → (a : A) → Wider (Repeats Step a) (Repeats StepAlso a)
repeats_wider one a xs v h = (h.0, chain_wider one h.0 a xs v h.1)
