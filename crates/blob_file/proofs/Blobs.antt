-- Bytes that are cut into blobs of a layout.
use Rattle.blob_file.proofs.Imports.{◌≡◌, ℕ, ◌+◌, ◌*◌, ◌/◌, ◌%◌, ◌<◌, ◌≤◌, List, [], ◌∷◌, ◌++◌, length, map, get_or, drop, take, All, refl, sym, ap, ◌∙◌, arith, sum_by, length-map, length-drop, get_or-map, append-nil, drop_all, Owner, AreSized, blob_lengths, cut}
use Rattle.blob_file.proofs.Cuts.{total, total_bits, total_more, cut_more, cut_lengths}

-- so many blobs were cut
pub record AreCut (counts body : List ℕ) (b : ℕ) (done : List (List ℕ)) (rest : List ℕ) : Type 0 where
  pub all : total (drop b counts) ≡ length rest
  pub is : cut counts body ≡ done ++ cut (drop b counts) rest

module _ (layout : List (List Owner)) (whole : All (λ (blob : List Owner). length blob % 8 ≡ 0) layout) (body : List ℕ) (sized : 8 * length body ≡ sum_by (length {A = Owner}) layout) where
  abbrev counts : List ℕ
  counts = blob_lengths layout

  pub all_bytes : total counts ≡ length body
  all_bytes = omega (arith, sized, total_bits layout whole)

  pub as_many : length counts ≡ length layout
  as_many = length-map layout (λ (blob : List Owner). length blob / 8)

  -- the bytes of a blob
  pub count_is : (b bytes : ℕ) → b < length layout → 8 * bytes ≡ length (get_or layout b []) → bytes ≡ get_or counts b 0
  count_is b bytes inside is = grind (arith, get_or-map)

  pub none_cut : AreCut counts body 0 [] body
  none_cut = record { all = all_bytes; is = refl }

  pub room : (b bytes : ℕ) (done : List (List ℕ)) (rest : List ℕ) → b < length layout → 8 * bytes ≡ length (get_or layout b []) → AreCut counts body b done rest → bytes ≤ length rest
  room b bytes done rest inside is so_far =
      omega (arith, so_far.all, total_more counts b (omega (arith, inside, as_many)), count_is b bytes inside is)

  pub one_cut : (b bytes : ℕ) (done : List (List ℕ)) (rest : List ℕ) → b < length layout → 8 * bytes ≡ length (get_or layout b []) → AreCut counts body b done rest → AreCut counts body (b + 1) (done ++ take bytes rest ∷ []) (drop bytes rest)
  one_cut b bytes done rest inside is so_far =
      let in_counts : b < length counts = omega (arith, inside, as_many) in
      let count : bytes ≡ get_or counts b 0 = count_is b bytes inside is in grind (arith, total_more, length-drop, cut_more)

  pub all_cut : (b : ℕ) (done : List (List ℕ)) (rest : List ℕ) → length layout ≤ b → AreCut counts body b done rest → done ≡ cut counts body
  all_cut b done rest over so_far = grind (arith, drop_all, as_many, append-nil)

  -- the blobs have the lengths of the layout
  pub cut_sized : AreSized layout (cut counts body)
  cut_sized =
      let lengths : map (length {A = ℕ}) (cut counts body) ≡ counts = cut_lengths counts body all_bytes in
      let many : length (cut counts body) ≡ length layout = sym (length-map (cut counts body) (length {A = ℕ})) ∙ ap (length {A = ℕ}) lengths ∙ as_many in
      record {
        count = many;
        lengths = λ b l.
            (let long : length (get_or (cut counts body) b []) ≡ get_or counts b 0 =
            sym (get_or-map (length {A = ℕ}) (cut counts body) b [] 0 (omega (arith, l, many))) ∙ ap (λ (ns : List ℕ). get_or ns b 0) lengths in
            let at : get_or counts b 0 ≡ length (get_or layout b []) / 8 = get_or-map (λ (blob : List Owner). length blob / 8) layout b [] 0 l in
            omega (arith, long, at, whole b [] l));
      }
