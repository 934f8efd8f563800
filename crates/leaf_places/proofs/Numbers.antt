-- What the bits of a leaf say, where they stand in the bytes of a blob.
use Rattle.leaf_places.proofs.Imports.{◌≡◌, ℕ, ◌*◌, ◌<◌, ◌≤◌, Bool, ℤ, List, [], length, get_or, map, sym, ap, ◌∙◌, ⊎_elim, arith, cases_lt, length-map, get_or-map, get_or_past, length-map-range_with_len, get_or-map-range_with_len, is_signed, LeafType, Hold, Owner, Pad, Bit, owner_at, number, digit, decoded, entry, bit_held, image, number_same, bit_of, bits_of, held, same_sign, stays_settled, Stays, StoreMode, bit_by}

-- a bit of bytes that are a blob of the image of rows, where an owner has it
bit_there : (layout : List (List Owner)) (rows : List (List ℤ)) (blob place row leaf k : ℕ) (bytes : List ℕ) → blob < length layout
    → bits_of bytes ≡ get_or (image layout rows) blob [] → owner_at layout blob place ≡ Bit row leaf k → bit_of bytes place ≡ digit (entry rows row leaf) k
bit_there layout rows blob place row leaf k bytes blob_in is owned =
    let owners = get_or layout blob [] in
    let bits : bits_of bytes ≡ map (bit_held rows) owners = is ∙ get_or-map (map (bit_held rows)) layout blob [] [] blob_in in
    let long : length (bits_of bytes) ≡ length owners = ap (length {A = ℕ}) bits ∙ length-map owners (bit_held rows) in
    let inside : place < length owners = grind (arith, ⊎_elim, get_or_past, cases_lt) in
    let there : place < 8 * length bytes = omega (arith, inside, long, length-map-range_with_len (bit_of bytes) 0 (8 * length bytes)) in
    sym (get_or-map-range_with_len (bit_of bytes) 0 (8 * length bytes) place place 0 there (omega arith))
    ∙ ap (λ (w : List ℕ). get_or w place 0) bits ∙ get_or-map (bit_held rows) owners place Pad 0 inside ∙ ap (bit_held rows) owned

-- a value that stays is what the image says of it, where the hold has the sign of its type
own_image : (mode : StoreMode) (kind : LeafType) (hold : Hold) (value : ℤ) → 1 ≤ hold.width → hold.signed ≡ is_signed kind → Stays mode kind hold value → held hold value ≡ value
own_image mode kind hold value some sign stays = grind (arith, stays_settled, same_sign)

-- bits that stand where a leaf has them say its number
pub says_number : (layout : List (List Owner)) (rows : List (List ℤ)) (mode : StoreMode) (kind : LeafType) (hold : Hold) (turned : Bool) (blob first row leaf : ℕ) (bytes : List ℕ)
    → blob < length layout → hold.signed ≡ is_signed kind → 1 ≤ hold.width
    → ((k : ℕ) → k < hold.width → owner_at layout blob (bit_by turned first hold.width k) ≡ Bit row leaf k) → bits_of bytes ≡ get_or (image layout rows) blob []
    → Stays mode kind hold (entry rows row leaf) → decoded hold.signed hold.width (number (λ k. bit_of bytes (bit_by turned first hold.width k)) hold.width) ≡ entry rows row leaf
says_number layout rows mode kind hold turned blob first row leaf bytes blob_in sign some owned is stays = grind (arith, number_same, bit_there, own_image)
