-- What each store of a stencil keeps true of the rows, its rounds keep true.
use Rattle.std.specs.Prelude.{◌≡◌, ℕ, zero, suc, true, ℤ, List, [], ◌∷◌, Result, Ok, Err, is_ok, refl}
use Rattle.subviews.specs.Imports.{subst, arith, with_entry, StoreAnswer, kept_by, StoreFault}
use Rattle.subviews.specs.Stencils.{Stencil, stencil_value, at_row, values_fault, with_entries, new_entry, if_fits, round, next_round, after_rounds}
use Rattle.subviews.specs.declared.fault.StencilFault.{StencilFault}

-- rows that are given, and whether values fit
abbrev given : List (List ℤ) → Result (List (List ℤ)) StencilFault
given rows = Ok rows

abbrev fits : Result Unit StencilFault
fits = Ok tt

same_rows : (rows new : List (List ℤ)) → given rows ≡ given new → rows ≡ new
same_rows rows new is = cc

fitted : (answer : Result Unit StencilFault) (rows new : List (List ℤ)) → if_fits answer rows ≡ given new → (answer ≡ fits) × (rows ≡ new)
fitted answer rows new is = grind (arith, same_rows)

-- the value in a row fits, and those in later rows do
fits_at : (row : ℕ) (answer : Result ℤ StoreFault) (rest : Result Unit StencilFault) → at_row row answer rest ≡ fits → (is_ok answer ≡ true) × (rest ≡ fits)
fits_at row answer rest is = grind arith

-- rows of which something holds, as it does after a store of a value that fits
module _ (answer : StoreAnswer) (stencil : Stencil) (Holds : List (List ℤ) → Type 0)
    (keeps : (rows : List (List ℤ)) (row : ℕ) (value : ℤ) → is_ok (answer stencil.leaf value) ≡ true → Holds rows → Holds (with_entry rows row stencil.leaf (kept_by answer stencil.leaf value))) where
  column_keeps : (old : List (List ℤ)) (numbers : List ℕ) (now : List (List ℤ)) → values_fault answer stencil old numbers ≡ fits → Holds now
      → Holds (with_entries stencil.leaf (new_entry answer stencil old) numbers now)
  column_keeps old [] now is holds = holds
  column_keeps old (row ∷ numbers) now is holds =
      let value = stencil_value stencil old row in
      let parts = fits_at row (answer stencil.leaf value) (values_fault answer stencil old numbers) is in
      column_keeps old numbers (with_entry now row stencil.leaf (new_entry answer stencil old row)) parts.1 (keeps now row value parts.0 holds)

  round_keeps : (rows new : List (List ℤ)) → Holds rows → round answer stencil rows ≡ given new → Holds new
  round_keeps rows new holds is = grind (arith, fitted, column_keeps)

  pub rounds_keep : (count : ℕ) (rows new : List (List ℤ)) → Holds rows → after_rounds answer stencil count rows ≡ given new → Holds new
  rounds_keep zero rows new holds is = subst Holds (same_rows rows new is) holds
  rounds_keep (suc count) rows new holds is = behind (after_rounds answer stencil count rows) is (λ old was. rounds_keep count rows old holds was)
    where
      behind : (before : Result (List (List ℤ)) StencilFault) → next_round answer stencil before ≡ given new → ((old : List (List ℤ)) → before ≡ given old → Holds old) → Holds new
      behind (Ok old) is held = round_keeps old new (held old refl) is
      behind (Err fault) is held = absurd (cc is)
