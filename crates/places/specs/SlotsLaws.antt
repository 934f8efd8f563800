-- One part after another, all of one length: the parts of slots, or of blocks.
use Rattle.std.specs.Prelude.{◌≡◌, ℕ, zero, suc, ◌+◌, ◌*◌, ◌%◌, ◌<◌, List, length, get_or}
use Rattle.record_dim.specs.Std.{arith, length-append, flat_map, range_with_len, get_or_append_left, get_or-append-add}

-- the length of so many parts
pub length-parts : {X : Type 0} (part : ℕ → List X) (stride : ℕ) → ((s : ℕ) → length (part s) ≡ stride)
    → (a n : ℕ) → length (flat_map part (range_with_len a n)) ≡ n * stride
length-parts part stride size a zero = omega arith
length-parts {X} part stride size a (suc n) = grind (arith, flat_map, range_with_len, length-append, (length-parts part stride size (a + 1) n))

-- place j of part i
pub part_at : {X : Type 0} (d : X) (part : ℕ → List X) (stride : ℕ) → ((s : ℕ) → length (part s) ≡ stride)
    → (a n i j : ℕ) → i < n → j < stride → get_or (flat_map part (range_with_len a n)) (i * stride + j) d ≡ get_or (part (a + i)) j d
part_at d part stride size a zero i j i_in j_in = absurd (omega arith)
part_at {X} d part stride size a (suc n) zero j i_in j_in = grind (arith, flat_map, range_with_len, get_or_append_left)
part_at {X} d part stride size a (suc n) (suc i) j i_in j_in = grind (arith, flat_map, range_with_len, get_or-append-add, (part_at d part stride size (a + 1) n i j (omega arith) j_in))

-- place j of the part of slot s
pub slot_at : {X : Type 0} (d : X) (part : ℕ → List X) (stride : ℕ) → ((s : ℕ) → length (part s) ≡ stride)
    → (n s j : ℕ) → s < n → j < stride → get_or (flat_map part (range_with_len 0 n)) (s * stride + j) d ≡ get_or (part s) j d
slot_at d part stride size n s j s_in j_in = grind (arith, part_at)

-- parts of whole bytes are whole bytes together
pub times_bytes : (n stride : ℕ) → stride % 8 ≡ 0 → (n * stride) % 8 ≡ 0
times_bytes zero stride whole = omega arith
times_bytes (suc n) stride whole = grind (arith, (times_bytes n stride whole))

pub parts_bytes : {X : Type 0} (part : ℕ → List X) → ((s : ℕ) → length (part s) % 8 ≡ 0) → (a n : ℕ) → length (flat_map part (range_with_len a n)) % 8 ≡ 0
parts_bytes part each a zero = omega arith
parts_bytes part each a (suc n) = grind (arith, flat_map, range_with_len, length-append, (parts_bytes part each (a + 1) n))
