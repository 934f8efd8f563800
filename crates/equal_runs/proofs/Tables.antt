-- Worlds of the same records and tables, under other mappings.
use Rattle.equal_runs.proofs.Imports.{◌≡◌, ℕ, Bool, List, length, refl, sym, subst, Fields, leaves, kinds_of, MapTerm, leaf_cells, layout_by, most_slots, accepted, Access, Tally, all_accesses, granules_for, Write, refused_at, StoreMode, ◌+◌, ◌*◌, ◌^◌, nat_lt, ⊤, kept_alike, Keeping, kept_rows, Table, IsWide, owners_of, leaf_count_of, answer_of, kept_of, after_stores, World, Entry, Left, refused_by, refused_if, ok_or, made, zeros_of, blob_bits, live_bits, in_words, with_rows, laid_anew, narrow_fault, BadMapping, TooBig, ℤ}
use Rattle.equal_runs.proofs.Agreeing.{Told, goes, Any, Both, told_bind, told_if, told_ok, told_by}
use Rattle.equal_runs.proofs.Entries.{Entries}
use Rattle.equal_runs.proofs.TallyCounts.{SameCounts, own_counts, tallied_alike, no_tally_alike}

-- all that a table is but its mapping, what both count by leaf, and what both keep of each value
pub record AlikeTables (table other : Table) : Type 0 where
  pub fields : other.fields ≡ table.fields
  pub extents : other.extents ≡ table.extents
  pub mode : other.mode ≡ table.mode
  pub rows : other.rows ≡ table.rows
  pub counts : SameCounts table.tally.counts other.tally.counts
  pub kept : kept_of other ≡ kept_of table

-- a table beside itself
pub self_alike : (table : Table) → AlikeTables table table
self_alike table = record { fields = refl; extents = refl; mode = refl; rows = refl; counts = own_counts table.tally.counts; kept = refl }

pub record AlikeWorlds (world other : World) : Type 0 where
  pub records : Entries (λ (a b : Fields). b ≡ a) world.records other.records
  pub mappings : Entries {A = MapTerm} Both world.mappings other.mappings
  pub views : Entries AlikeTables world.views other.views

-- what a command leaves: such worlds, where these hold of them, and the same text
pub record AlikeLefts (P Q : World → Type 0) (left other : Left) : Type 0 where
  pub worlds : P left.held → Q other.held → AlikeWorlds left.held other.held
  pub text : other.text ≡ left.text

-- such worlds, whatever holds of them
abbrev pub AlikeAlways : Left → Left → Type 0
AlikeAlways = AlikeLefts (λ world. ⊤) (λ world. ⊤)

-- what holds of a table under every mapping and with every tally with which it is alike holds of a table that is alike
pub of_mapping : (P : Table → Type 0) (table other : Table) → AlikeTables table other
    → ((mapping : MapTerm) (tally : Tally) → AlikeTables table (record table { mapping = mapping; tally = tally }) → P (record table { mapping = mapping; tally = tally })) → P other
of_mapping P table other alike each =
    let is : record table { mapping = other.mapping; tally = other.tally } ≡ other =
    λ i. record { fields = sym alike.fields i; extents = sym alike.extents i; mapping = other.mapping; mode = sym alike.mode i; rows = sym alike.rows i; tally = other.tally } in
    subst P is (each other.mapping other.tally (subst (AlikeTables table) (sym is) alike))

-- tables that are alike where both have room for all bits
abbrev pub AlikeIfWide : Table → Table → Type 0
AlikeIfWide table other = IsWide table → IsWide other → AlikeTables table other

-- what holds of two tables, by other words for them
pub of_both : (R : Table → Table → Type 0) (first second : Table) → R first second → (table other : Table) → table ≡ first → other ≡ second → R table other
of_both R first second holds table other is also = subst (R table) (sym also) (subst (λ (t : Table). R t second) (sym is) holds)

-- after the same accesses, which made both rows these
pub rewritten_alike : (table : Table) (mapping : MapTerm) (tally : Tally) → AlikeTables table (record table { mapping = mapping; tally = tally })
    → (rows : List (List ℤ)) (log : List Access) → AlikeTables (after_stores table rows log) (after_stores (record table { mapping = mapping; tally = tally }) rows log)
rewritten_alike table mapping tally same rows log = record {
  fields = refl;
  extents = refl;
  mode = refl;
  rows = refl;
  counts = tallied_alike (owners_of table) (owners_of (record table { mapping = mapping })) table.tally tally log same.counts;
  kept = same.kept;
}

-- where two mappings have room for all bits, both keep the same
pub zeros_alike : (mode : StoreMode) (fields : Fields) (extents : List ℕ) (term changed : MapTerm) → AlikeIfWide (zeros_of mode fields extents term) (zeros_of mode fields extents changed)
zeros_alike mode fields extents term changed wide also = record {
  fields = refl;
  extents = refl;
  mode = refl;
  rows = refl;
  counts = no_tally_alike term changed (layout_by term extents fields) (layout_by changed extents fields) (length (leaves fields));
  kept = kept_alike (zeros_of mode fields extents changed) (zeros_of mode fields extents term) refl refl also wide;
}

-- with what a table keeps of other rows, each value written once
abbrev pub with_written : Table → List (List ℤ) → Table
with_written table rows = after_stores table (kept_rows (kept_of table) rows) (all_accesses Write (leaf_count_of table) (length rows))

pub written_under : (table : Table) (mapping : MapTerm) (tally : Tally) → AlikeTables table (record table { mapping = mapping; tally = tally }) → (rows : List (List ℤ))
    → AlikeTables (with_written table rows) (with_written (record table { mapping = mapping; tally = tally }) rows)
written_under table mapping tally same rows =
    let under : Table = record table { mapping = mapping; tally = tally } in
    let log = all_accesses Write (leaf_count_of table) (length rows) in
    subst (λ (keep : Keeping). AlikeTables (with_written table rows) (after_stores under (kept_rows keep rows) log)) (sym same.kept)
    (rewritten_alike table mapping tally same (kept_rows (kept_of table) rows) log)

written_alike : (table other : Table) → AlikeTables table other → (rows : List (List ℤ)) → AlikeTables (with_written table rows) (with_written other rows)
written_alike table other alike rows =
    of_mapping (λ (t : Table). AlikeTables (with_written table rows) (with_written t rows)) table other alike (λ mapping tally same. written_under table mapping tally same rows)

-- what a new mapping keeps of the rows
abbrev pub anew_of : Table → MapTerm → Table
anew_of table mapping = with_written (zeros_of table.mode table.fields table.extents mapping) table.rows

pub anew_alike : (table other : Table) (term changed : MapTerm) → AlikeTables table other → AlikeIfWide (anew_of table term) (anew_of other changed)
anew_alike table other term changed alike =
    of_mapping (λ (t : Table). AlikeIfWide (anew_of table term) (anew_of t changed)) table other alike
    (λ mapping tally same wide also. written_alike (zeros_of table.mode table.fields table.extents term) (zeros_of table.mode table.fields table.extents changed)
    (zeros_alike table.mode table.fields table.extents term changed wide also) table.rows)

module _ (m : Bool) where
  -- a new table is refused for its mapping or its size alone
  pub made_told : (views : List (Entry Table)) (mode : StoreMode) (fields : Fields) (extents : List ℕ) (mapping : MapTerm)
      → Told m (λ (t : Table). t ≡ zeros_of mode fields extents mapping) (made views mode fields extents mapping)
  made_told views mode fields extents mapping =
      let table = zeros_of mode fields extents mapping in
      let many = nat_lt (2 ^ 24) (granules_for mapping (owners_of table)) in
      told_bind m Any _ (ok_or BadMapping (accepted mapping fields (leaf_cells (kinds_of fields)))) _ (told_ok m BadMapping _ (λ e. refl)) (λ fit p.
      told_bind m Any _ (refused_if (nat_lt (2 ^ 24) (most_slots mapping extents)) TooBig) _ (told_if m _ TooBig refl) (λ slots q.
      told_bind m Any _ (refused_if (nat_lt (8 * 2 ^ 28) (blob_bits table)) TooBig) _ (told_if m _ TooBig refl) (λ bytes r.
      told_bind m Any _ (refused_if many TooBig) _ (told_if m many TooBig refl) (λ granules s.
      told_bind m Any _ (refused_if (nat_lt (8 * 2 ^ 30) (live_bits views + blob_bits table)) TooBig) _ (told_if m _ TooBig refl) (λ all t. goes table refl)))))

  -- rows are refused for a hold alone
  pub rows_told : (table : Table) (rows : List (List ℤ)) → Told m (λ (t : Table). t ≡ with_written table rows) (with_rows in_words table rows)
  unfolding with_rows
  rows_told table rows =
      told_bind m Any _ (refused_by (narrow_fault table.fields) (refused_at (answer_of table) 0 rows)) _ (told_by m (narrow_fault table.fields) _ (λ e. refl)) (λ held p. goes _ refl)

  pub anew_told : (views : List (Entry Table)) (table : Table) (mapping : MapTerm) → Told m (λ (t : Table). t ≡ anew_of table mapping) (laid_anew views table mapping)
  unfolding laid_anew
  anew_told views table mapping =
      told_bind m (λ (t : Table). t ≡ zeros_of table.mode table.fields table.extents mapping) (λ (t : Table). t ≡ anew_of table mapping)
      (made views table.mode table.fields table.extents mapping) _ (made_told views table.mode table.fields table.extents mapping)
      (λ zeros is. subst (λ (z : Table). Told m (λ (t : Table). t ≡ anew_of table mapping) (with_rows in_words z table.rows)) (sym is)
      (rows_told (zeros_of table.mode table.fields table.extents mapping) table.rows))
