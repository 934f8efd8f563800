-- The values of expressions on the rows of a table, and what can be stored in a leaf.
use Rattle.worlds.specs.Imports.{ℕ, ℤ, List, Term, outcome_of, EvalFault, StoreFault, Table, answer_of}
use Rattle.expr_lang.specs.declared.fault.EvalFault.TheVariants as eval
use Rattle.views.specs.declared.fault.StoreFault.TheVariants as store
use Rattle.worlds.specs.Outcomes.{Tested, ok_or}
use Rattle.worlds.specs.Names.{text_of_leaf}
use Rattle.worlds.specs.declared.fault.CommandFault.{CommandFault}
use Rattle.worlds.specs.declared.fault.CommandFault.TheVariants.{Range, Narrow, Overflow, DivideByZero}

-- the fault of an expression in a row
abbrev pub eval_fault : ℕ → EvalFault → CommandFault
eval_fault row eval.Overflow = Overflow row
eval_fault row eval.DivideByZero = DivideByZero row

-- the fault of a store in a leaf of a row
abbrev pub store_fault : ℕ → List ℕ → StoreFault → CommandFault
store_fault row leaf store.Range = Range row leaf
store_fault row leaf store.Narrow = Narrow row leaf

-- the value of an expression on the row of this number and this index
abbrev pub value_on : ℕ → List ℤ → List ℕ → Term ℕ → Tested ℤ
value_on number row index value = ok_or (eval_fault number) (outcome_of row index value).answer

-- the number that is kept of a value in a leaf of the row of this number
abbrev pub storable : Table → ℕ → ℕ → ℤ → Tested ℤ
storable table number leaf value = ok_or (store_fault number (text_of_leaf table.fields leaf)) (answer_of table leaf value)
