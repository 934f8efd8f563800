-- What is opened of a file saves as its bytes.
use Rattle.saved_runs.proofs.Imports.{◌≡◌, ℕ, Bool, false, List, [], nat_lt, Some, None, Ok, sym, ap, ◌∙◌, subst, le-ltb, File, file_named, Table, after_log-none, AreRows, IsFile, IsShort, image_bytes, HasLines, CanLie, Saved, opened, table_of_saved, rows_in, header_of, blobs_of, OpensFiles, HoldsRows, World, found, Goes, Left, shows, on_view, tells, with_view, is_long, save, open_view, opened_table, opened_beside, step, found_added, free_found, IsSavable, OpenedSaves, Shows, does, arith}
use Rattle.blob_file.specs.Files as saved_file
use Rattle.saved_runs.proofs.Went.{went, same_things, was_read, replaced_same, sure_went, same_given}

-- what was opened of a file: its table stands under the name, where there was none
pub record WasOpened (world : World) (name file : List ℕ) (files : List File) (table : Table) : Type 0 where
  pub bytes : List ℕ
  pub there : file_named files file ≡ Some bytes
  pub new : found name world.views ≡ None
  pub saved : Saved
  pub opens : opened bytes ≡ Ok saved
  pub is : table ≡ table_of_saved saved

pub table_opened : (world : World) (name file : List ℕ) (files : List File) (fails : Bool) (table : Table) → opened_table world name file files fails ≡ Goes table
    → WasOpened world name file files table
unfolding opened_table opened_beside
table_opened world name file files fails table goes = grind (arith, went, nat_lt, sure_went, was_read, free_found, same_given)

-- a table whose texts are short saves as its file
not_long : (table : Table) → IsShort (header_of table) → is_long table ≡ false
not_long table short = grind (arith, nat_lt, le-ltb)

pub short_saves : (table : Table) → IsShort (header_of table) → save table ≡ Ok (tells (saved_file.file_of (header_of table) (blobs_of table)))
unfolding save
short_saves table short = grind (arith, not_long)

-- a save shows its bytes, and changes nothing
save_shows : (world : World) (name : List ℕ) (table : Table) (bytes : List ℕ) → found name world.views ≡ Some table → save table ≡ Ok (tells bytes)
    → on_view world name (does (Shows save)) ≡ shows world bytes
unfolding on_view
save_shows world name table bytes is saves = grind (arith, after_log-none, replaced_same)

module _ (opens_files : OpensFiles) (holds_rows : HoldsRows) where
  -- a file can say its table
  same_rows : (bytes : List ℕ) (saved : Saved) → (file : IsFile bytes saved.header saved.blobs) → HasLines saved.header → CanLie saved.header → rows_in saved.header saved.blobs ≡ file.rows
  same_rows bytes saved file lines lies = ap (rows_in saved.header) file.image_is ∙ holds_rows saved.header file.rows lines lies file.are_rows

  pub table_savable : (bytes : List ℕ) (saved : Saved) → opened bytes ≡ Ok saved → IsSavable (table_of_saved saved)
  table_savable bytes saved is =
      let known = (opens_files bytes saved).0 is in
      record { lines = known.1; lies = known.2; rows = subst (AreRows saved.header) (sym (same_rows bytes saved known.0 known.1 known.2)) known.0.are_rows }

  -- and the table saves as the file
  table_saves : (bytes : List ℕ) (saved : Saved) → opened bytes ≡ Ok saved → save (table_of_saved saved) ≡ Ok (tells bytes)
  table_saves bytes saved is =
      let known = (opens_files bytes saved).0 is in
      let same = same_rows bytes saved known.0 known.1 known.2 in
      let blobs : blobs_of (table_of_saved saved) ≡ saved.blobs = ap (image_bytes saved.header) same ∙ sym known.0.image_is in
      grind (arith, short_saves)

  pub opened_saves : OpenedSaves
  unfolding step open_view
  opened_saves world name file files fails left goes =
      let a = went (opened_table world name file files fails) _ left goes in
      let was = table_opened world name file files fails a.thing a.first in
      let table = table_of_saved was.saved in
      let held : with_view world name table ≡ left.held =
      ap (with_view world name) (sym was.is) ∙ ap (λ (l : Left). l.held) (same_things (record { held = with_view world name a.thing; text = [] }) left a.next) in
      grind (arith, found_added, save_shows, table_saves)
