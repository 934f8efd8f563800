-- The layout of each form, and what a mapping keeps of it.
use Rattle.std.specs.Prelude.{ℕ, ◌≡◌, ◌+◌, ◌<◌, List, length, slice_index, slice_index_or}
use Rattle.places.specs.Prelude.{Owner, Pad, Bit, cells_of, fields, falling, aligned_part}
use Rattle.places.specs.declared.forms.AosForm.{AosForm}
use Rattle.places.specs.declared.forms.AosForm.TheVariants.{Packed, Aligned, Min}

-- the part of one slot
abbrev pub part_of : AosForm → List ℕ → ℕ → List Owner
part_of Packed widths slot = fields slot (cells_of widths)
part_of Aligned widths slot = aligned_part (cells_of widths) slot
part_of Min widths slot = aligned_part (falling (cells_of widths)) slot

-- the cells in the order in which they lie
abbrev pub order_of : AosForm → List (ℕ × ℕ) → List (ℕ × ℕ)
order_of Packed cells = cells
order_of Aligned cells = cells
order_of Min cells = falling cells

-- what a cell of this width is aligned to
abbrev pub alignment : AosForm → ℕ → ℕ
alignment Packed width = 1
alignment Aligned width = width
alignment Min width = width

-- each part has `stride` bits, and in it each cell's bits stand from the cell's offset on
pub record LieInParts (form : AosForm) (widths : List ℕ) (offsets : List ℕ) (stride : ℕ) : Type 0 where
  pub each : length offsets ≡ length widths
  pub size : (slot : ℕ) → length (part_of form widths slot) ≡ stride
  pub here : (slot cell bit : ℕ) → cell < length widths → bit < slice_index widths cell
      → slice_index_or (part_of form widths slot) (slice_index offsets cell + bit) Pad ≡ Bit slot cell bit
