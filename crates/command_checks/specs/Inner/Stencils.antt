-- Stencils that may be made on a table.
use Rattle.std.specs.Prelude.{◌≡◌, ◌<◌, ◌≤◌, All, length}
use Rattle.command_checks.specs.Imports.{IsTermOf, stencil_by, Stencil, Table, leaf_count_of}
use Rattle.command_checks.specs.declared.stencils.FitStencil.{FitStencil}

-- the stencil of its parts
abbrev pub stencil_of : FitStencil → Stencil
stencil_of fit = stencil_by fit.window fit.leaf fit.terms.items fit.divisor

-- it may be made on a table
pub record IsStencilOf (table : Table) (fit : FitStencil) : Type 0 where
  pub window : fit.window.0 ≡ table.extents
  pub leaf : fit.leaf < leaf_count_of table
  pub terms : All (IsTermOf (leaf_count_of table) fit.window) fit.terms.items
  pub few : length fit.terms.items ≤ 64
  pub divisor : 0 < fit.divisor
