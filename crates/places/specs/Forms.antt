-- The layouts of the base mappings that come in several forms.
use Rattle.std.specs.Prelude.{ℕ, List}
use Rattle.places.specs.Layout.{Owner, packed_aos, aligned_aos, min_aos, single_soa, aligned_soa, multi_soa}
use Rattle.places.specs.declared.forms.AosForm.{AosForm}
use Rattle.places.specs.declared.forms.AosForm.TheVariants as aos
use Rattle.places.specs.declared.forms.SoaForm.{SoaForm}
use Rattle.places.specs.declared.forms.SoaForm.TheVariants as soa

-- array of structs: the layout of slots of cells of these widths
abbrev pub aos_layout : AosForm → ℕ → List ℕ → List (List Owner)
aos_layout aos.Packed slots widths = packed_aos slots widths
aos_layout aos.Aligned slots widths = aligned_aos slots widths
aos_layout aos.Min slots widths = min_aos slots widths

-- struct of arrays: the layout of slots of cells of these widths
abbrev pub soa_layout : SoaForm → ℕ → List ℕ → List (List Owner)
soa_layout soa.Single slots widths = single_soa slots widths
soa_layout soa.Aligned slots widths = aligned_soa slots widths
soa_layout soa.Multi slots widths = multi_soa slots widths
