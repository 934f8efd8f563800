-- What is read off the image of a table.
use Rattle.std.specs.Prelude.{◌≡◌, ℕ, ◌<◌, ◌≤◌, false, ℤ, List, length, map}
use Rattle.piece_bits.specs.Imports.{sym, ap, ◌∙◌, subst, arith, length-map, LeafType, Hold, Owner, Bit, digit, decoded, entry, bit_held, bit_owned, IsImage, table_of, width_at, number_same, owned_is, IsLaidOut, IsBitOf}
use Rattle.piece_bits.specs.Tables.{HasShape, hold_at, signs_and_widths}
use Rattle.piece_bits.specs.TableLaws.{table_shape, entry_is, tables_same}
use Rattle.piece_bits.specs.LowBits.{declared, held}
use Rattle.piece_bits.specs.declared.mode.StoreMode.{StoreMode}
use Rattle.piece_bits.specs.Modes.{kind_at, declared_table, Stays}
use Rattle.piece_bits.specs.KeptTableLaws.{declared_shape, declared_entry}
use Rattle.piece_bits.specs.EntryLaws.{stays_settled}

module _ (layout : List (List Owner)) (slots : ℕ) (holds : List Hold) (laid : IsLaidOut layout slots (map (λ (h : Hold). h.width) holds))
    (table : List (List ℤ)) (bits : ℕ → ℕ → ℕ) (is : IsImage layout table bits) where
  -- the raw number of an entry is what its image says
  pub image_raw : (row leaf : ℕ) → row < slots → leaf < length holds → entry (table_of layout slots (signs_and_widths holds) bits) row leaf ≡ held (hold_at holds leaf) (entry table row leaf)
  image_raw row leaf l m =
      let d : Hold = record { signed = false; width = 0 } in
      let hold = hold_at holds leaf in
      let bit : (k : ℕ) → k < hold.width → bit_owned (Bit row leaf k) layout bits ≡ digit (entry table row leaf) k = λ k n.
      (let here : IsBitOf slots (map (λ (h : Hold). h.width) holds) row leaf k = record {
        slot_in = l;
        cell_in = omega (arith, m, length-map holds (λ (h : Hold). h.width));
        bit_in = subst (λ (w : ℕ). k < w) (sym (width_at holds leaf d m)) n;
      } in
      let place = laid.there row leaf k here in
      owned_is layout slots (map (λ (h : Hold). h.width) holds) bits place.0 place.1 row leaf k laid place.2 ∙ is place.0 place.1 ∙ ap (bit_held table) place.2) in
      entry_is layout slots holds bits row leaf d l m
      ∙ ap (decoded hold.signed hold.width) (number_same (λ k. bit_owned (Bit row leaf k) layout bits) (digit (entry table row leaf)) hold.width bit)

  -- so a table whose entries stay is the one that is read off its image, and no two such tables have one image
  pub image_table : (mode : StoreMode) (kinds : List LeafType) → length holds ≡ length kinds → HasShape slots (length kinds) table →
      ((row leaf : ℕ) → row < slots → leaf < length kinds → (1 ≤ (hold_at holds leaf).width) × Stays mode (kind_at kinds leaf) (hold_at holds leaf) (entry table row leaf)) →
      declared_table kinds (table_of layout slots (signs_and_widths holds) bits) ≡ table
  image_table mode kinds paired shape stays =
      let raw = table_of layout slots (signs_and_widths holds) bits in
      let shaped = table_shape layout slots holds bits in
      let raw_shape : HasShape slots (length kinds) raw = record { row_count = shaped.row_count; leaf_count = λ row l. shaped.leaf_count row l ∙ paired } in
      tables_same slots (length kinds) (declared_table kinds raw) table (declared_shape slots kinds raw raw_shape) shape
      (λ row leaf l m.
      let here = stays row leaf l m in
      declared_entry slots kinds raw raw_shape row leaf l m
      ∙ ap (declared (kind_at kinds leaf)) (image_raw row leaf l (omega (arith, m, paired)))
      ∙ (stays_settled mode (kind_at kinds leaf) (hold_at holds leaf) (entry table row leaf) here.0 here.1).0)
