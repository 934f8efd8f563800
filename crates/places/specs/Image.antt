-- The bits that a table leaves under a layout, and the number that is read off them.
use Rattle.std.specs.Prelude.{ℕ, zero, suc, ◌+◌, ◌-◌, ◌*◌, ◌/◌, ◌%◌, ◌^◌, ◌≡◌, ℤ, pos, negsuc, ◌-ℤ◌, Bool, true, false, List, [], ◌∷◌, map, slice_index_or, if◌then◌else◌, ◌==◌, ◌&&◌}
use Rattle.record_dim.specs.Std.{range_with_len, enumerate_from}
use Rattle.places.specs.Layout.{Owner, Pad, Bit, owner_at}

-- binary digit k of a whole number: floor(value / 2^k) mod 2 (two's complement)
abbrev pub digit : ℤ → ℕ → ℕ
digit (pos n) k = (n / 2 ^ k) % 2
digit (negsuc n) k = 1 - (n / 2 ^ k) % 2

-- the number below 2^width that has these binary digits, least significant first
abbrev pub number : (ℕ → ℕ) → ℕ → ℕ
number bits zero = 0
number bits (suc width) = bits 0 + 2 * number (λ k. bits (k + 1)) width

-- what `width` bits say: less 2^width where they are signed and the top bit is 1
abbrev pub decoded : Bool → ℕ → ℕ → ℤ
decoded false width n = pos n
decoded true width n = if n / 2 ^ (width - 1) == 0 then pos n else (pos n -ℤ pos (2 ^ width))

-- an entry of a table of numbers; 0 outside
abbrev pub entry : List (List ℤ) → ℕ → ℕ → ℤ
entry table row leaf = slice_index_or (slice_index_or table row []) leaf (pos 0)

-- the bit that an owner holds in a table
abbrev pub bit_held : List (List ℤ) → Owner → ℕ
bit_held table Pad = 0
bit_held table (Bit row leaf bit) = digit (entry table row leaf) bit

-- the image: at each bit of each blob what its owner holds
abbrev pub image : List (List Owner) → List (List ℤ) → List (List ℕ)
image layout table = map (map (bit_held table)) layout

-- bits that are the image, place by place; outside of the blobs they are 0
abbrev pub IsImage : List (List Owner) → List (List ℤ) → (ℕ → ℕ → ℕ) → Type 0
IsImage layout table bits = (blob place : ℕ) → bits blob place ≡ bit_held table (owner_at layout blob place)

-- whether two owners are the same
abbrev pub same_owner : Owner → Owner → Bool
same_owner Pad Pad = true
same_owner Pad (Bit slot cell bit) = false
same_owner (Bit slot cell bit) Pad = false
same_owner (Bit slot cell bit) (Bit slot' cell' bit') = (slot == slot') && ((cell == cell') && (bit == bit'))

-- the bit at the first place that the owner has in one blob; `rest` where it has none there
abbrev pub bit_along : Owner → List Owner → (ℕ → ℕ) → ℕ → ℕ
bit_along owner [] bits rest = rest
bit_along owner (here ∷ owners) bits rest =
    if same_owner here owner then bits 0 else bit_along owner owners (λ place. bits (place + 1)) rest

-- the bit that an owner has in a layout; 0 where it has none
abbrev pub bit_owned : Owner → List (List Owner) → (ℕ → ℕ → ℕ) → ℕ
bit_owned owner [] bits = 0
bit_owned owner (blob ∷ blobs) bits =
    bit_along owner blob (bits 0) (bit_owned owner blobs (λ b. bits (b + 1)))

-- the value of a cell in a row, read off bits under a layout, as its sign and width say
abbrev pub reading : List (List Owner) → (ℕ → ℕ → ℕ) → ℕ → ℕ → Bool → ℕ → ℤ
reading layout bits row cell signed width =
    decoded signed width (number (λ k. bit_owned (Bit row cell k) layout bits) width)

-- the table read off bits, given each cell's sign and width
abbrev pub table_of : List (List Owner) → ℕ → List (Bool × ℕ) → (ℕ → ℕ → ℕ) → List (List ℤ)
table_of layout rows holds bits =
    map (λ row. map (λ e. reading layout bits row e.0 (e.1).0 (e.1).1) (enumerate_from 0 holds)) (range_with_len 0 rows)
