-- The layout of each form, and what a mapping keeps of it.
use Rattle.std.specs.Prelude.{ℕ, ◌≡◌, ◌+◌, ◌*◌, ◌%◌, ◌<◌, List, length, sum_by, slice_index}
use Rattle.places.specs.Prelude.{soa_layout, Bit, owner_at}
use Rattle.places.specs.declared.forms.SoaForm.{SoaForm}
use Rattle.places.specs.declared.forms.SoaForm.TheVariants.{Single, Aligned, Multi}

-- the blob in which a cell's array lies
abbrev pub blob_of : SoaForm → ℕ → ℕ
blob_of Single cell = 0
blob_of Aligned cell = 0
blob_of Multi cell = cell

-- what the array of a cell of this width is aligned to
abbrev pub alignment : SoaForm → ℕ → ℕ
alignment Single width = 1
alignment Aligned width = width
alignment Multi width = 1

-- where an array begins in its blob, if it begins at `begin` with all arrays behind one another
abbrev pub in_blob : SoaForm → ℕ → ℕ
in_blob Single begin = begin
in_blob Aligned begin = begin
in_blob Multi begin = 0

-- all blobs have `size` bits, and in its blob each cell's array lies from the cell's offset on, which is a byte, slot after slot
pub record LieInArrays (form : SoaForm) (slots : ℕ) (widths offsets : List ℕ) (size : ℕ) : Type 0 where
  pub each : length offsets ≡ length widths
  pub bytes : (cell : ℕ) → cell < length widths → slice_index offsets cell % 8 ≡ 0
  pub total : sum_by length (soa_layout form slots widths) ≡ size
  pub here : (slot cell bit : ℕ) → slot < slots → cell < length widths → bit < slice_index widths cell
      → owner_at (soa_layout form slots widths) (blob_of form cell) (slice_index offsets cell + slot * slice_index widths cell + bit) ≡ Bit slot cell bit
