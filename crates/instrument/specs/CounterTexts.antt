-- The texts of counts by leaf, of counts by granule, and of runs.
use Rattle.std.specs.Prelude.{ℕ, ◌==◌, List, [], ◌∷◌, ◌++◌, codes, slice_index, slice_index_or, if◌then◌else◌}
use Rattle.record_dim.specs.Std.{flat_map, enumerate_from}
use Rattle.layout_io.specs.Prelude.{digits_text}
use Rattle.places.specs.declared.piece.Run.{Run}
use Rattle.places.specs.declared.piece.RunOwner.{RunOwner}
use Rattle.places.specs.declared.piece.RunOwner.TheVariants.{Pad, Leaf}
use Rattle.instrument.specs.Counters.{LeafCounts, HeatCounts}

-- fields as a line, with a comma between each two
abbrev pub fields_line : List (List ℕ) → List ℕ
fields_line [] = 10 ∷ []
fields_line (first ∷ []) = first ++ 10 ∷ []
fields_line (first ∷ second ∷ fields) = first ++ 44 ∷ fields_line (second ∷ fields)

-- a leaf by its number and its path text, with its reads and its writes
abbrev pub leaf_line : LeafCounts → ℕ × List ℕ → List ℕ
leaf_line counts leaf = fields_line (leaf.1 ∷ digits_text (slice_index counts.reads leaf.0) ∷ digits_text (slice_index counts.writes leaf.0) ∷ [])

-- the counts of leaves that have these path texts
unfoldable pub counts_text : List (List ℕ) → LeafCounts → List ℕ
counts_text names counts = fields_line (codes "leaf" ∷ codes "reads" ∷ codes "writes" ∷ []) ++ flat_map (leaf_line counts) (enumerate_from 0 names)

-- a granule of a blob by its number, with its count; one without accesses is left out
abbrev pub granule_line : ℕ → ℕ × ℕ → List ℕ
granule_line blob granule = if granule.1 == 0 then [] else fields_line (digits_text blob ∷ digits_text granule.0 ∷ digits_text granule.1 ∷ [])

-- the granules of a blob by its number
abbrev pub blob_lines : ℕ × List ℕ → List ℕ
blob_lines blob = flat_map (granule_line blob.0) (enumerate_from 0 blob.1)

-- the counts of granules
unfoldable pub heat_text : HeatCounts → List ℕ
heat_text heat = fields_line (codes "blob" ∷ codes "granule" ∷ codes "accesses" ∷ []) ++ flat_map blob_lines (enumerate_from 0 heat.blobs)

-- the record, the leaf's path text and its lowest bit, or a dash for each
abbrev pub owner_fields : List (List ℕ) → RunOwner → List (List ℕ)
owner_fields names Pad = codes "-" ∷ codes "-" ∷ codes "-" ∷ []
owner_fields names (Leaf row leaf low) = digits_text row ∷ slice_index_or names leaf [] ∷ digits_text low ∷ []

-- a run, and whose it is
abbrev pub run_line : List (List ℕ) → Run → List ℕ
run_line names run = fields_line (digits_text run.blob ∷ digits_text run.bit ∷ digits_text run.bits ∷ owner_fields names run.owner)

-- the runs of leaves that have these path texts
unfoldable pub runs_text : List (List ℕ) → List Run → List ℕ
runs_text names runs = fields_line (codes "blob" ∷ codes "bit" ∷ codes "bits" ∷ codes "record" ∷ codes "leaf" ∷ codes "low" ∷ []) ++ flat_map (run_line names) runs
