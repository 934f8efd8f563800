use Rattle.blob_file.proofs.Lemmas.{◌≡◌, ◌∙◌, ◌*◌, ℕ, List, length, map, refl, sym, ap, arith, sum_by, indices, IsLaidOut, Hold, Owner, joined, owners_of, table_holds, blob_lengths, cut, with_blobs, AreRows, header_of, blobs_of, rows_contents, same_rows, cut_joined, length-joined, total, total_bits, body_is, lengths_of_image}
use Rattle.blob_file.proofs.laws.body_law.Goals as goal

pub returns : goal.returns
returns c =
    let table = c.args.view.now in
    let header = header_of table in
    let blobs = blobs_of table in
    let is = c.laws_of_table.ensures.table in
    let laid : IsLaidOut (owners_of table) (length (indices table.extents)) (map (λ (h : Hold). h.width) (table_holds table)) = rw (c.map.ensures.layout, c.map.ensures.slots, c.map.ensures.holds) at c.laws_of.ensures.lawful in
    let rows : AreRows header table.rows = grind arith in
    let counts = lengths_of_image header table.rows in
    let long : length (joined blobs) ≡ total (blob_lengths (owners_of table)) = length-joined blobs ∙ ap total counts in
    let sized : 8 * length (joined blobs) ≡ sum_by (length {A = Owner}) (owners_of table) = omega (arith, long, total_bits (owners_of table) laid.whole_bytes) in
    let cuts : cut (blob_lengths (owners_of table)) (joined blobs) ≡ blobs = ap (λ (ns : List ℕ). cut ns (joined blobs)) (sym counts) ∙ cut_joined blobs in
    let contents = rows_contents header laid c.laws_of_table.ensures.paired blobs table.rows rows refl in
    record {
      sized = sized;
      back = (
        body_is header (joined blobs) sized ∙ ap (with_blobs header) cuts ∙ (rw contents refl),
        same_rows header laid c.laws_of_table.ensures.paired blobs table.rows rows refl,
      );
    }
