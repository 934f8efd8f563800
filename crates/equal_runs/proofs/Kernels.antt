-- Which fault ends a kernel, by the answers to its stores.
use Rattle.equal_runs.proofs.Imports.{◌≡◌, ℕ, Bool, true, false, ℤ, List, [], ◌∷◌, Option, Some, None, Result, Err, refl, option_or, StoreAnswer, StoreFault, Store, answer_fault, first_row_fault, kernel_fault, KernelFault, Kernel, ◌+◌, arith, kernel_store_fault}
use Rattle.views.specs.declared.fault.StoreFault.TheVariants as stored_fault
use Rattle.lane_kernels.specs.declared.fault.KernelFault.TheVariants.{Narrow}
use Rattle.equal_runs.proofs.Answers.{Answers, Causes, same, one, other as another, is_narrow}

abbrev pub is_narrow_kernel : KernelFault → Bool
is_narrow_kernel (Narrow row leaf) = true
is_narrow_kernel _ = false

or_causes : (x y u v : Option KernelFault) → Causes is_narrow_kernel x y → Causes is_narrow_kernel u v → Causes is_narrow_kernel (option_or x u) (option_or y v)
or_causes x y u v (same None) later = later
or_causes x y u v (same (Some e)) later = same (Some e)
or_causes x y u v (one e z is) later = one e (option_or z v) is
or_causes x y u v (another z e is) later = another (option_or z u) e is

narrow_answer : (row leaf : ℕ) (e : StoreFault) (y : Option KernelFault) → is_narrow e ≡ true → Causes is_narrow_kernel (answer_fault row leaf (Err e)) y
narrow_answer row leaf stored_fault.Range y is = absurd (cc)
narrow_answer row leaf stored_fault.Narrow y is = one (Narrow row leaf) y refl

narrow_other : (row leaf : ℕ) (x : Option KernelFault) (e : StoreFault) → is_narrow e ≡ true → Causes is_narrow_kernel x (answer_fault row leaf (Err e))
narrow_other row leaf x e is = grind (arith, another)

answer_causes : {Alike : Type 0} (row leaf : ℕ) (x y : Result ℤ StoreFault) → Answers is_narrow Alike x y → Causes is_narrow_kernel (answer_fault row leaf x) (answer_fault row leaf y)
answer_causes row leaf x y h = grind (arith, same, narrow_answer, narrow_other)

-- two answers to stores that both keep a number, or of which one says that the value is not held
module _ {Alike : Type 0} (answer other : StoreAnswer) (alike : (leaf : ℕ) (value : ℤ) → Answers is_narrow Alike (answer leaf value) (other leaf value)) where
  store_causes : (row : ℕ) (store : Option Store) → Causes is_narrow_kernel (kernel_store_fault answer row store) (kernel_store_fault other row store)
  store_causes row None = same None
  store_causes row (Some store) = answer_causes row store.leaf (answer store.leaf store.value) (other store.leaf store.value) (alike store.leaf store.value)

  first_causes : (kernel : Kernel) (row : ℕ) (rows : List (List ℤ)) → Causes is_narrow_kernel (first_row_fault answer kernel row rows) (first_row_fault other kernel row rows)
  first_causes kernel row [] = same None
  first_causes kernel row (values ∷ rows) = grind (arith, or_causes, store_causes, (first_causes kernel (row + 1) rows))

  pub kernel_causes : (kernel : Kernel) (rows : List (List ℤ)) → Causes is_narrow_kernel (kernel_fault answer kernel rows) (kernel_fault other kernel rows)
  kernel_causes kernel rows = grind (arith, or_causes, same, first_causes)
