-- `stencil V window [..] set path = (..) / D rounds N` sets a leaf in each row of a window to a sum over its neighbours, so many times.
use Rattle.std.specs.Prelude.{◌+◌, ◌*◌, ◌^◌, ◌&&◌}
use Rattle.worlds.specs.Imports.{ℕ, Bool, not, nat_lt, pos, List, length, Ok, list_all, Span, TermText, PathStep, Fields, StencilFault, Weighted, Stencil, stenciled, rounds_log, reaches, is_weight, is_divisor, WindowOf, Table}
use Rattle.worlds.specs.OnView.{Done, stores}
use Rattle.worlds.specs.Outcomes.{Tested, ◌>>=◌, each, refused_if, ok_or}
use Rattle.worlds.specs.Names.{leaf_of, text_of_leaf}
use Rattle.worlds.specs.Tables.{blob_bits}
use Rattle.worlds.specs.Values.{store_fault}
use Rattle.worlds.specs.Windows.{windowed}
use Rattle.worlds.specs.declared.fault.BadStencil.TheVariants.{Reach, Weight, Terms, Rounds}
use Rattle.worlds.specs.declared.fault.CommandFault.{CommandFault}
use Rattle.worlds.specs.declared.fault.CommandFault.TheVariants.{BadStencil, TooBig}

-- a term with the number of its leaf in place of its path
abbrev pub weighted_term : Fields → TermText → Tested Weighted
weighted_term fields text = do
  leaf ← leaf_of fields text.path
  Ok (record { weight = text.weight; leaf = leaf; offsets = text.offsets })

-- each term has offsets with which a stencil over the window may read, and each a weight that it may have
abbrev pub all_reach : WindowOf → List TermText → Bool
all_reach window texts = list_all (λ text. reaches window text.offsets) texts

abbrev pub all_weigh : List TermText → Bool
all_weigh texts = list_all (λ text. is_weight text.weight) texts

-- one cause is looked for in all terms before the next
abbrev pub fit_terms : WindowOf → List TermText → ℕ → ℕ → Tested (Unit {0})
fit_terms window texts divisor rounds = do
  near ← refused_if (not (all_reach window texts)) (BadStencil Reach)
  light ← refused_if (not (all_weigh texts && is_divisor (pos divisor))) (BadStencil Weight)
  few ← refused_if (nat_lt 64 (length texts)) (BadStencil Terms)
  refused_if (nat_lt 1000 rounds) (BadStencil Rounds)

-- a stencil that may be made so many times
abbrev pub fit_stencil : Table → List Span → List PathStep → List TermText → ℕ → ℕ → Tested Stencil
fit_stencil table spans path texts divisor rounds = do
  leaf ← leaf_of table.fields path
  terms ← each (weighted_term table.fields) texts
  window ← windowed table.extents spans
  fit ← fit_terms window texts divisor rounds
  Ok (record { window = window; leaf = leaf; terms = terms; divisor = pos divisor })

-- a buffer as large as the table finds room beside live views of so many bits
abbrev pub room_beside : ℕ → Table → Tested (Unit {0})
room_beside live table = refused_if (nat_lt (8 * 2 ^ 30) (live + blob_bits table)) TooBig

-- the fault of a row, with the path text of the leaf that is set
abbrev pub stencil_fault : Fields → ℕ → StencilFault → CommandFault
stencil_fault fields leaf fault = store_fault fault.row (text_of_leaf fields leaf) fault.fault

-- what a stencil that may be made does
abbrev pub stencil_rounds : Table → ℕ → Stencil → Tested Done
stencil_rounds table rounds stencil = do
  rows ← ok_or (stencil_fault table.fields stencil.leaf) (stenciled table stencil rounds)
  Ok (stores rows (rounds_log stencil rounds))

-- beside live views of so many bits, the table among them
unfoldable pub stencil_run : ℕ → Table → List Span → List PathStep → List TermText → ℕ → ℕ → Tested Done
stencil_run live table spans path texts divisor rounds = do
  stencil ← fit_stencil table spans path texts divisor rounds
  room ← room_beside live table
  stencil_rounds table rounds stencil
